-- When a claim is accepted, in the claim's own terms: what it says of its side, of each row and of its columns. Assumes nothing.
use Rattle.std.specs.Prelude.{ℕ, zero, suc, ◌≤◌, ◌<◌, ◌≡◌, refl, Bool, true, false, cond, ◌≢◌, ◌↔◌, ◌⊎◌, List, [], ◌∷◌, length, get_or}
use Rattle.std.proofs.Common.{sym, ◌∙◌, subst, true≢false, inl, inr, arith}
use Rattle.std.proofs.Math.Path.{ap, fun_ext}
use Rattle.std.proofs.Math.Decide.{ℕ_discrete, dec_lt}
use Rattle.std.proofs.Math.ListN.{get_or-eq_default}
use Rattle.limits.specs.Limits.{no_column}
use Rattle.counting.specs.Bools.{true?, not_true, iff_eq}
use Rattle.counting.specs.Sets.{Set, ◌∈◌, #, Some}
use Rattle.counting.specs.Counts.{some?, both?, not?, #-ext}
use Rattle.counting.specs.Choices.{Part}
use Rattle.rank.specs.Linear.Independence.{Indep}
use Rattle.rank.specs.Layered.Model.{Model, Seat, out, constant, row, Assignment, is_placed, is_constant, placing, constants, Legal}
use Rattle.rank.specs.Layered.Rank.{sum}
use Rattle.rank.proofs.Layered.Meaning.{seat_cases, row?}
use Rattle.dependence.specs.Listing.{listing}
use Rattle.dependence.specs.ListingLaws.{listing_at, listing_length}
use Rattle.claims.specs.Claim.{Names, Shows, AcceptsClaim}

-- some row names column x; a list has as many rows as elements
abbrev pub Named : List ℕ → ℕ → Type 0
Named rows x = Some (length rows) (λ r. Names rows r x)

named? : (rows : List ℕ) (x : ℕ) → Dec (Named rows x)
named? rows x = some? (length rows) (λ r. Names rows r x) (λ r. both? (ℕ_discrete (get_or rows r no_column) x) (not? (ℕ_discrete x no_column)))

pub named_below : (rows : List ℕ) (r x : ℕ) → Names rows r x → r < length rows
named_below rows r x h = elim (dec_lt r (length rows)) [
  | yes l ↦ l
  | no nl ↦ absurd (h.1 (sym h.0 ∙ get_or-eq_default rows no_column (omega arith)))
]

-- where a list has an element, it is read whatever stands for one that it lacks
pub read_below : (xs : List ℕ) (j d e : ℕ) → j < length xs → get_or xs j d ≡ get_or xs j e
read_below [] j d e l = absurd (omega arith)
read_below (x ∷ xs) zero d e l = refl
read_below (x ∷ xs) (suc j) d e l = read_below xs j d e (omega arith)

pub names_one : (rows : List ℕ) (r x y : ℕ) → Names rows r x → Names rows r y → x ≡ y
names_one rows r x y h k = sym h.0 ∙ k.0

-- ---- the assignment of a claim

-- the row that names a column, or out
abbrev row_of : (rows : List ℕ) (x : ℕ) → Dec (Named rows x) → Seat
row_of rows x (yes w) = row w.0
row_of rows x (no nw) = out

-- the seat that a claim gives column x; where it names x twice it is the constant side, or the last such row
pub claimed : Set → List ℕ → Assignment
claimed side rows x = cond (side x) constant (row_of rows x (named? rows x))

pub constant_seat : (t : Seat) → is_constant t ≡ true → t ≡ constant
constant_seat out e = absurd (true≢false (sym e))
constant_seat constant e = refl
constant_seat (row r) e = absurd (true≢false (sym e))

-- no column is named twice
pub record Once (side : Set) (rows : List ℕ) : Type 0 where
  pub one_side : (r x : ℕ) → Names rows r x → x ∈ side → ⊥
  pub one_row : (r q x : ℕ) → Names rows r x → Names rows q x → r ≡ q

seat_off : (side : Set) (rows : List ℕ) (x : ℕ) → side x ≡ false → claimed side rows x ≡ row_of rows x (named? rows x)
unfolding claimed
seat_off side rows x e = ap (λ (t : Bool). cond t constant (row_of rows x (named? rows x))) e

seat_on : (side : Set) (rows : List ℕ) (x : ℕ) → x ∈ side → claimed side rows x ≡ constant
unfolding claimed
seat_on side rows x e = ap (λ (t : Bool). cond t constant (row_of rows x (named? rows x))) e

no_constant : (rows : List ℕ) (x : ℕ) (d : Dec (Named rows x)) → row_of rows x d ≡ constant → ⊥
no_constant rows x (yes w) e = true≢false (sym (ap is_constant e))
no_constant rows x (no nw) e = true≢false (sym (ap is_constant e))

row_names : (rows : List ℕ) (x r : ℕ) (d : Dec (Named rows x)) → row_of rows x d ≡ row r → Names rows r x
row_names rows x r (yes w) e = let j : w.0 ≡ r = cc in subst (λ (q : ℕ). Names rows q x) j w.2
row_names rows x r (no nw) e = absurd (true≢false (sym (ap is_placed e)))

names_row : {side : Set} (rows : List ℕ) (x r : ℕ) → Once side rows → Names rows r x → (d : Dec (Named rows x)) → row_of rows x d ≡ row r
names_row rows x r u h (yes w) = ap row (u.one_row w.0 r x w.2 h)
names_row rows x r u h (no nw) = absurd (nw (r, named_below rows r x h, h))

module _ (side : Set) (rows : List ℕ) where
  -- a claim that names no column twice shows an assignment,
  pub claimed_shown : Once side rows → Shows side rows (claimed side rows)
  claimed_shown u = record {
    on_the_side = λ x. (
      λ e. elim (true? (side x)) [ yes s ↦ s | no ns ↦ absurd (no_constant rows x (named? rows x) (sym (seat_off side rows x (not_true (side x) ns)) ∙ e)) ],
      seat_on side rows x,
    );
    on_rows = λ x r. (
      λ e. elim (true? (side x)) [
        | yes s ↦ absurd (true≢false (ap is_constant (sym (seat_on side rows x s) ∙ e)))
        | no ns ↦ row_names rows x r (named? rows x) (sym (seat_off side rows x (not_true (side x) ns)) ∙ e)
      ],
      λ h. seat_off side rows x (not_true (side x) (u.one_side r x h)) ∙ names_row rows x r u h (named? rows x),
    );
  }

  module _ {A : Assignment} (s : Shows side rows A) where
    -- and one that shows an assignment names none twice
    pub shown_once : Once side rows
    shown_once = record {
      one_side = λ r x h o. true≢false (ap is_constant (sym ((s.on_the_side x).1 o) ∙ (s.on_rows x r).1 h));
      one_row = λ r q x h k. let e : A x ≡ row r = (s.on_rows x r).1 h in let f : A x ≡ row q = (s.on_rows x q).1 k in cc;
    }

    -- the side and the columns that it places
    pub side_shown : (x : ℕ) → constants A x ≡ side x
    side_shown x = iff_eq (constants A x) (side x)
        (λ e. seat_cases (A x) (λ o. absurd (true≢false (sym e ∙ ap is_constant o))) (λ c. (s.on_the_side x).0 c) (λ r c. absurd (true≢false (sym e ∙ ap is_constant c))))
        (λ o. ap is_constant ((s.on_the_side x).1 o))

    pub placed_shown : (x : ℕ) → (x ∈ placing A) ↔ ((x ∈ side) ⊎ Named rows x)
    placed_shown x = (
      λ e. seat_cases (A x) (λ o. absurd (true≢false (sym e ∙ ap is_placed o))) (λ c. inl ((s.on_the_side x).0 c)) (λ r c.
          let h : Names rows r x = (s.on_rows x r).0 c in inr (r, named_below rows r x h, h)),
      λ w. elim w [ inl o ↦ ap is_placed ((s.on_the_side x).1 o) | inr v ↦ ap is_placed ((s.on_rows x v.0).1 v.2) ],
    )

-- ---- what an accepted claim says

-- row r serves the column x that it names, among b rows with the parameters T and n columns of which those in E are offered: they have both, and a parameter
-- there, and x is named nowhere else
pub record Serves (b n : ℕ) (T : ℕ → ℕ → Bool) (E : Set) (side : Set) (rows : List ℕ) (r x : ℕ) : Type 0 where
  pub row_below : r < b
  pub column_below : x < n
  pub column_offered : x ∈ E
  pub has_parameter : T r x ≡ true
  pub not_on_side : x ∈ side → ⊥
  pub no_other_row : (q : ℕ) → Names rows q x → q ≡ r

module _ (M : Model) where
  open M use {K, a, b, n, Q, T, E}

  -- the claim, with the set S of all columns that it places
  pub record Holds (r : ℕ) (side : Set) (rows : List ℕ) (J S : Set) : Type 0 where
    pub side_columns : Part n E side
    pub rows_serve : (q x : ℕ) → Names rows q x → Serves b n T E side rows q x
    pub side_independent : Indep K a n Q side
    pub as_many : # n S ≡ r
    pub set_columns : Part n E J
    pub set_sum : sum M J ≡ r

  module _ (r : ℕ) (side : Set) (rows : List ℕ) (J S : Set) (all : (x : ℕ) → (x ∈ S) ↔ ((x ∈ side) ⊎ Named rows x)) where
    places_all : {A : Assignment} → Shows side rows A → (x : ℕ) → placing A x ≡ S x
    places_all {A} s x = iff_eq (placing A x) (S x) (λ e. (all x).1 ((placed_shown side rows s x).0 e)) (λ e. (placed_shown side rows s x).1 ((all x).0 e))

    accepted_holds : AcceptsClaim M r side rows J → Holds r side rows J S
    accepted_holds c =
        let A = c.assignment in
        let s = c.is_shown in
        let h = c.is_accepted.is_legal in
        let u = shown_once side rows s in
        record {
          side_columns = λ x o. h.offered x (ap is_placed ((s.on_the_side x).1 o));
          rows_serve = λ q x m.
              let e = (s.on_rows x q).1 m in
              let o = h.offered x (ap is_placed e) in
              let t = h.parameter x q e in
              record { row_below = t.0; column_below = o.0; column_offered = o.1; has_parameter = t.1; not_on_side = u.one_side q x m; no_other_row = λ q' m'. u.one_row q' q x m' m };
          side_independent = subst (Indep K a n Q) (fun_ext (side_shown side rows s)) h.independent;
          as_many = sym (#-ext n (placing A) S (λ x l. places_all s x)) ∙ c.is_accepted.as_many;
          set_columns = c.is_accepted.columns;
          set_sum = c.is_accepted.has_sum;
        }

    holds_accepted : Holds r side rows J S → AcceptsClaim M r side rows J
    holds_accepted h =
        let A = claimed side rows in
        let s : Shows side rows A = claimed_shown side rows (record { one_side = λ q x m. (h.rows_serve q x m).not_on_side; one_row = λ q q' x m m'. (h.rows_serve q' x m').no_other_row q m }) in
        record {
          assignment = A;
          is_shown = s;
          is_accepted = record {
            is_legal = record {
              offered = λ x e. elim ((placed_shown side rows s x).0 e) [ inl o ↦ h.side_columns x o | inr w ↦ let k = h.rows_serve w.0 x w.2 in (k.column_below, k.column_offered) ];
              independent = subst (Indep K a n Q) (sym (fun_ext (side_shown side rows s))) h.side_independent;
              parameter = λ x q e. let k = h.rows_serve q x ((s.on_rows x q).0 e) in (k.row_below, k.has_parameter);
              one_each = λ x y q e f. names_one rows q x y ((s.on_rows x q).0 e) ((s.on_rows y q).0 f);
            };
            as_many = #-ext n (placing A) S (λ x l. places_all s x) ∙ h.as_many;
            columns = h.set_columns;
            has_sum = h.set_sum;
          };
        }

    pub claim_iff : AcceptsClaim M r side rows J ↔ Holds r side rows J S
    claim_iff = (accepted_holds, holds_accepted)

-- ---- a claim for every legal assignment

-- the column below n on row r, or none
abbrev column_of : (A : Assignment) (n r : ℕ) → Dec (Some n (λ x. A x ≡ row r)) → ℕ
column_of A n r (yes w) = w.0
column_of A n r (no nw) = no_column

column_on : Assignment → ℕ → ℕ → ℕ
column_on A n r = column_of A n r (some? n (λ x. A x ≡ row r) (λ x. row? (A x) r))

module _ (M : Model) (A : Assignment) (h : Legal M A) (few : M.n ≤ no_column) (k : ℕ) (room : M.b ≤ k) where
  open M use {n}

  abbrev rows : List ℕ
  rows = listing k (column_on A n)

  at : (r : ℕ) → r < k → get_or rows r no_column ≡ column_on A n r
  at r l = read_below rows r no_column 0 (omega (arith, listing_length k (column_on A n))) ∙ listing_at k (column_on A n) r l

  found : (x r : ℕ) → A x ≡ row r → (d : Dec (Some n (λ y. A y ≡ row r))) → column_of A n r d ≡ x
  found x r e (yes w) = h.one_each w.0 x r w.2 e
  found x r e (no nw) = absurd (nw (x, (h.offered x (ap is_placed e)).0, e))

  stands : (x r : ℕ) → x ≢ no_column → (d : Dec (Some n (λ y. A y ≡ row r))) → column_of A n r d ≡ x → A x ≡ row r
  stands x r ne (yes w) e = subst (λ (y : ℕ). A y ≡ row r) e w.2
  stands x r ne (no nw) e = absurd (ne (sym e))

  -- its constant side and k rows show it
  pub legal_shown : (rs : List ℕ) × (length rs ≡ k) × Shows (constants A) rs A
  unfolding column_on
  legal_shown = (
    rows,
    listing_length k (column_on A n),
    record {
      on_the_side = λ x. ((λ e. ap is_constant e), constant_seat (A x));
      on_rows = λ x r. (
        λ e. (at r (omega (arith, (h.parameter x r e).0)) ∙ found x r e (some? n (λ y. A y ≡ row r) (λ y. row? (A y) r)), λ z. omega (arith, z, (h.offered x (ap is_placed e)).0)),
        λ m. stands x r m.1 (some? n (λ y. A y ≡ row r) (λ y. row? (A y) r)) (sym (at r (omega (arith, listing_length k (column_on A n), named_below rows r x m))) ∙ m.0),
      );
    },
  )

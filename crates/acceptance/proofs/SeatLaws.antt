-- How the columns that the rows of a claim name get their seats one after another, and what that says of all of them. Assumes nothing.
use Prim.Native.Nat.{ℕ, ◌+◌, ◌<◌, ◌≤◌}
use mathlib.Core.Path.{◌≡◌, refl, sym, ap, ◌∙◌, subst}
use mathlib.Core.Logic.{◌≢◌, ◌↔◌, ◌⊎◌, inl, inr}
use mathlib.Core.Bool.{Bool, true, false, not, ◌&&◌, ◌||◌, true≢false}
use mathlib.Core.List.{List}
use native.Mathlib.Omega.{arith}
use native.Mathlib.Decide.{ℕ_discrete, dec_lt}
use lib.ListN.{length, get_or}
use lib.Dec.{ltb, eqb}
use borrow.Author.Tests.{lt-ltb, ltb-true, eqb-true, eq-eqb, ne_eqb}
use Rattle.limits.specs.Limits.{most_columns, most_rows, no_column}
use Rattle.counting.specs.Bools.{not_true, iff_eq, and_in, and_left, and_right, or_left, or_right, or_split, not_of, not_both}
use Rattle.counting.specs.Sets.{Set, ◌∈◌, Some}
use Rattle.columns.specs.Columns.{width, members, inserted}
use Rattle.columns.specs.ColumnSets.{whole}
use Rattle.columns.specs.Words.SetLaws.{inserted_same, inserted_old, inserted_split}
use Rattle.rank.specs.ListedModel.{parameter_at}
use Rattle.claims.specs.Claim.{Names}
use Rattle.claims.proofs.ClaimLaws.{Named, named_below}
use Rattle.columns.specs.declared.ColumnSet.{ColumnSet}
use Rattle.acceptance.specs.Code.{row_serves, RowFits, RowsServe}

-- ---- one row

module _ (n b : ℕ) (ws : List ℕ) (S : Set) (r x : ℕ) where
  -- what the test of a row says, and what it asks
  pub record CanServe : Type 0 where
    pub row_below : r < b
    pub column_below : x < n
    pub has_no_seat : x ∈ S → ⊥
    pub has_parameter : parameter_at ws r x ≡ true

  pub serves_reads : (row_serves n b ws S r x ≡ true) ↔ CanServe
  unfolding row_serves
  serves_reads = (
    λ e.
        let s1 : (ltb r b && ltb x n && not (S x)) ≡ true = and_left (ltb r b && ltb x n && not (S x)) (parameter_at ws r x) e in
        let s2 : (ltb r b && ltb x n) ≡ true = and_left (ltb r b && ltb x n) (not (S x)) s1 in
        record {
          row_below = ltb-true r b (and_left (ltb r b) (ltb x n) s2);
          column_below = ltb-true x n (and_right (ltb r b) (ltb x n) s2);
          has_no_seat = not_both (S x) (and_right (ltb r b && ltb x n) (not (S x)) s1);
          has_parameter = and_right (ltb r b && ltb x n && not (S x)) (parameter_at ws r x) e;
        },
    λ h. and_in (and_in (and_in (lt-ltb r b h.row_below) (lt-ltb x n h.column_below)) (not_of (S x) h.has_no_seat)) h.has_parameter,
  )

  pub cannot_serve : (CanServe → ⊥) → false ≡ row_serves n b ws S r x
  cannot_serve no_way = sym (not_true (row_serves n b ws S r x) (λ e. no_way (serves_reads.0 e)))

  -- where all else is known, it serves where it has a parameter
  pub serves_by_parameter : r < b → x < n → S x ≡ false → {t : Bool} → t ≡ parameter_at ws r x → t ≡ row_serves n b ws S r x
  serves_by_parameter l m o {t} e = iff_eq t (row_serves n b ws S r x)
      (λ h. serves_reads.1 (record { row_below = l; column_below = m; has_no_seat = λ i. true≢false (sym i ∙ o); has_parameter = sym e ∙ h }))
      (λ h. e ∙ (serves_reads.0 h).has_parameter)

module _ (n b : ℕ) (ws : List ℕ) (S : Set) (r c : ℕ) (s : ColumnSet) where
  -- a row that names no column
  pub no_row_seated : c ≡ no_column → members (whole s) ≡ S → RowFits n b ws S r c s
  no_row_seated z m = record {
    fits = or_left (eqb c no_column) (row_serves n b ws S r c) (eq-eqb c no_column z);
    columns_are = λ x. (λ i. inl (sym (ap (λ (T : Set). T x) m) ∙ i), λ w. elim w [ inl o ↦ ap (λ (T : Set). T x) m ∙ o | inr v ↦ absurd (v.1 (sym v.0 ∙ z)) ]);
  }

  -- a row that names one
  pub row_seated : n ≤ most_columns → c ≢ no_column → row_serves n b ws S r c ≡ true → members (whole s) ≡ inserted S c → RowFits n b ws S r c s
  row_seated few nz e m = record {
    fits = or_right (eqb c no_column) (row_serves n b ws S r c) e;
    columns_are = λ x.
        let l : c < width = omega (arith, ((serves_reads n b ws S r c).0 e).column_below) in (
          λ i. elim (inserted_split S c x (sym (ap (λ (T : Set). T x) m) ∙ i)) [ inl d ↦ inr (sym d, λ z. nz (sym d ∙ z)) | inr o ↦ inl o ],
          λ w. ap (λ (T : Set). T x) m ∙ elim w [ inl o ↦ inserted_old S c x o | inr v ↦ subst (λ (y : ℕ). y ∈ inserted S c) v.0 (inserted_same S c l) ],
        );
  }

-- a row that cannot serve the one that it names
pub row_unseated : (n b : ℕ) (ws : List ℕ) (S : Set) (r c : ℕ) → c ≢ no_column → row_serves n b ws S r c ≡ false → (eqb c no_column || row_serves n b ws S r c) ≡ false
row_unseated n b ws S r c nz e = ap (λ (t : Bool). t || row_serves n b ws S r c) (ne_eqb c no_column nz) ∙ e

-- ---- the rows one after another

module _ (n b : ℕ) (ws : List ℕ) (side : Set) (rows : List ℕ) where
  -- the columns of the rows below k have their seats, and the columns in S are those of the side and of these rows
  pub record SeatedBelow (k : ℕ) (S : Set) : Type 0 where
    pub serve : (q x : ℕ) → q < k → Names rows q x → (q < b) × (x < n) × (parameter_at ws q x ≡ true) × (x ∈ side → ⊥) × ((q' : ℕ) → q' < q → Names rows q' x → ⊥)
    pub seated : (x : ℕ) → (x ∈ S) ↔ ((x ∈ side) ⊎ Some k (λ q. Names rows q x))

  pub none_seated : (S : Set) → ((x : ℕ) → S x ≡ side x) → SeatedBelow 0 S
  none_seated S e = record {
    serve = λ q x l. absurd (omega arith);
    seated = λ x. (λ i. inl (sym (e x) ∙ i), λ w. elim w [ inl o ↦ e x ∙ o | inr v ↦ absurd (omega (arith, v.1)) ]);
  }

  module _ (k : ℕ) (S : Set) (h : SeatedBelow k S) where
    -- a row that names a column, and fits, can serve it
    can : (x : ℕ) → Names rows k x → (eqb (get_or rows k no_column) no_column || row_serves n b ws S k (get_or rows k no_column)) ≡ true → CanServe n b ws S k x
    can x m e = elim (or_split (eqb (get_or rows k no_column) no_column) (row_serves n b ws S k (get_or rows k no_column)) e) [
      | inl z ↦ absurd (m.1 (sym m.0 ∙ eqb-true _ _ z))
      | inr v ↦ subst (CanServe n b ws S k) m.0 ((serves_reads n b ws S k (get_or rows k no_column)).0 v)
    ]

    pub one_more_seated : (s : ColumnSet) → RowFits n b ws S k (get_or rows k no_column) s → SeatedBelow (k + 1) (members (whole s))
    one_more_seated s t = record {
      serve = λ q x l m. elim (dec_lt q k) [
        | yes below ↦ h.serve q x below m
        | no nb ↦
            let at : q ≡ k = omega arith in
            let here : Names rows k x = subst (λ (j : ℕ). Names rows j x) at m in
            let c = can x here t.fits in
            rw at (c.row_below, c.column_below, c.has_parameter, (λ o. c.has_no_seat ((h.seated x).1 (inl o))), λ q' l' m'. c.has_no_seat ((h.seated x).1 (inr (q', l', m'))))
      ];
      seated = λ x. (
        λ i. elim ((t.columns_are x).0 i) [
          | inl old ↦ elim ((h.seated x).0 old) [ inl o ↦ inl o | inr w ↦ inr (w.0, omega (arith, w.1), w.2) ]
          | inr new ↦ inr (k, omega arith, new)
        ],
        λ w. elim w [
          | inl o ↦ (t.columns_are x).1 (inl ((h.seated x).1 (inl o)))
          | inr v ↦ elim (dec_lt v.0 k) [
            | yes below ↦ (t.columns_are x).1 (inl ((h.seated x).1 (inr (v.0, below, v.2))))
            | no nb ↦ let at : v.0 ≡ k = omega (arith, v.1) in (t.columns_are x).1 (inr (subst (λ (j : ℕ). Names rows j x) at v.2))
          ]
        ],
      );
    }

    -- a row that does not fit
    pub row_unfit : (eqb (get_or rows k no_column) no_column || row_serves n b ws S k (get_or rows k no_column)) ≡ false → RowsServe n b ws side rows → ⊥
    row_unfit e all = let x = get_or rows k no_column in elim (ℕ_discrete (get_or rows k no_column) no_column) [
      | yes z ↦ true≢false (sym (or_left (eqb x no_column) (row_serves n b ws S k x) (eq-eqb x no_column z)) ∙ e)
      | no nz ↦
          let v = all k x (refl, nz) in
          let unseated : x ∈ S → ⊥ = λ i. elim ((h.seated x).0 i) [
            | inl o ↦ v.not_on_side o
            | inr w ↦ omega (arith, w.1, v.no_other_row w.0 w.2)
          ] in
          true≢false (sym (or_right (eqb x no_column) (row_serves n b ws S k x) ((serves_reads n b ws S k x).1 (record { row_below = v.row_below; column_below = v.column_below; has_no_seat = unseated; has_parameter = v.has_parameter }))) ∙ e)
    ]

  -- all of them
  module _ (long : length rows ≡ most_rows) (S : Set) (h : SeatedBelow most_rows S) where
    below_all : (q x : ℕ) → Names rows q x → q < most_rows
    below_all q x m = omega (arith, long, named_below rows q x m)

    pub all_serve : RowsServe n b ws side rows
    all_serve q x m =
        let v = h.serve q x (below_all q x m) m in
        record {
          row_below = v.0;
          column_below = v.1;
          column_offered = refl;
          has_parameter = v.2;
          not_on_side = v.3;
          no_other_row = λ q' m'. elim (dec_lt q' q) [
            | yes l ↦ absurd (v.4 q' l m')
            | no nl ↦ elim (dec_lt q q') [
              | yes l ↦ absurd ((h.serve q' x (below_all q' x m') m').4 q l m)
              | no nl' ↦ omega arith
            ]
          ];
        }

    pub all_seated : (x : ℕ) → (x ∈ S) ↔ ((x ∈ side) ⊎ Named rows x)
    all_seated x = (
      λ i. elim ((h.seated x).0 i) [ inl o ↦ inl o | inr w ↦ inr (w.0, named_below rows w.0 x w.2, w.2) ],
      λ w. elim w [ inl o ↦ (h.seated x).1 (inl o) | inr v ↦ (h.seated x).1 (inr (v.0, below_all v.0 x v.2, v.2)) ],
    )

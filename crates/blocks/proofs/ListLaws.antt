-- The blocks listed one after another: the rounds of the code are those of the definition. Assumes nothing.
use Prim.Native.Nat.{ℕ, ◌+◌, ◌≤◌, ◌<◌}
use mathlib.Core.Path.{◌≡◌, refl, sym, ap, ◌∙◌}
use mathlib.Core.Logic.{◌≢◌}
use mathlib.Core.Bool.{Bool, true, false, not, ◌&&◌, ◌||◌, cond, true≢false}
use mathlib.Core.List.{List}
use native.Mathlib.Omega.{arith}
use native.Mathlib.Decide.{ℕ_discrete}
use native.Mathlib.Numerals.{add-one}
use lib.ListN.{length, get_or, replicate, get_or-replicate}
use Rattle.limits.specs.Limits.{most_columns, most_rows, no_column}
use Rattle.counting.specs.Bools.{true?, not_true, iff_eq, and_in, and_left, and_right, or_left, or_right, not_both, not_of, implied, implies}
use Rattle.counting.specs.Sets.{Set, ◌∈◌, ◌⊆◌, ◌∩◌, ◌∪◌, ∁, #, Some, all, any}
use Rattle.counting.specs.Counts.{all_iff, any_iff, #-le}
use Rattle.counting.specs.Injections.{#-strict}
use Rattle.columns.specs.Columns.{width, least, removed}
use Rattle.columns.specs.ColumnSets.{most_words}
use Rattle.columns.specs.Words.Rows.{most_words_rows}
use Rattle.columns.specs.Words.Operations.{least_in, least_first}
use Rattle.columns.specs.Words.SetLaws.{nothing_in, least_there, removed_old, removed_other}
use Rattle.relation.specs.Relations.{row_of}
use Rattle.listings.specs.Offered.{offered, offered_iff}
use Rattle.listings.specs.Blocks.{block, needs, permitted, next_block, listed, blocks_by}
use Rattle.listings.specs.Listings.Tests.{Block, block_iff, needs_iff, Permitted, permitted_iff}
use Rattle.listings.specs.Listings.Made.{some_free, fresh, in_listed, listed_from, block_offered, count_stops}
use Rattle.blocks.specs.Code.{Ordered, NeedsShown, Waits, Numbered, ListedBy}
use Rattle.blocks.specs.Shown.{Blocks}
use Rattle.blocks.proofs.TurnLaws.{least_is}
use Rattle.blocks.proofs.NeedLaws.{row_iff, others_needed}

-- what has not been listed, as a test; a round more
listed_next : (n : ℕ) (E : Set) (b t : ℕ → ℕ → Bool) (k x : ℕ) → listed n E b t (k + 1) x ≡ (listed n E b t k x || blocks_by n E b t k x)
unfolding listed blocks_by
listed_next n E b t k x = ap (λ (i : ℕ). listed n E b t i x) (add-one k)

listed_none : (n : ℕ) (E : Set) (b t : ℕ → ℕ → Bool) (x : ℕ) → listed n E b t 0 x ≡ false
unfolding listed
listed_none n E b t x = refl

block_of_next : (n : ℕ) (E : Set) (b t : ℕ → ℕ → Bool) (k x : ℕ) → x ≡ least n (permitted n E b t (listed n E b t k)) → (y : ℕ) → block n E b t x y ≡ blocks_by n E b t k y
unfolding blocks_by next_block
block_of_next n E b t k x e y = ap (λ (z : ℕ). block n E b t z y) e

permitted_parts : (n : ℕ) (E : Set) (b t : ℕ → ℕ → Bool) (D : Set) (x : ℕ) → permitted n E b t D x ≡ (offered n E x && not (D x) && all n (λ y. not (needs n E b t x y) || D y))
unfolding permitted
permitted_parts n E b t D x = refl

-- the columns that are left and not awake wait, each for one that must come before
pub record Watched (needed : List ℕ) (rest awake : Set) (waiting : List ℕ) : Type 0 where
  pub long : length waiting ≡ most_words
  pub inside : awake ⊆ rest
  pub watched : (x : ℕ) → x ∈ rest → awake x ≡ false → Some width (λ y. (y ∈ rest) × (y ∈ row_of needed x) × (x ∈ row_of waiting y))

pub watched_start : (needed : List ℕ) (rest : Set) → Watched needed rest rest (replicate most_words 0)
watched_start needed rest = record { long = refl; inside = λ x e. e; watched = λ x e n. absurd (true≢false (sym e ∙ n)) }

-- a column waits
pub watched_wait : (needed : List ℕ) (rest awake : Set) (waiting waiting' : List ℕ) (x y : ℕ) → Watched needed rest awake waiting → x < width → y < most_rows → (rest ∩ row_of needed x) y ≡ true
    → Waits y x waiting waiting' → Watched needed rest (removed awake x) waiting'
watched_wait needed rest awake waiting waiting' x y o lx ly e w = record {
  long = w.same_length ∙ o.long;
  inside = λ z m. o.inside z (removed_old awake x z m);
  watched = λ z m n. elim (ℕ_discrete z x) [
    | yes d ↦ rw d (y, omega arith, (and_left (rest y) (row_of needed x y) e, and_right (rest y) (row_of needed x y) e, w.itself lx (omega (arith, most_words_rows waiting o.long))))
    | no nd ↦
        let v : Some width (λ y. (y ∈ rest) × (y ∈ row_of needed z) × (z ∈ row_of waiting y)) = o.watched z m (not_true (awake z) (λ k. true≢false (sym (removed_other awake x z k nd) ∙ n))) in
        (v.0, v.1, (v.2.0, v.2.1, w.more v.0 z v.2.2))
  ];
}

-- a block is listed: those that wait for one of it awake
pub watched_listed : (needed : List ℕ) (rest awake S W : Set) (waiting : List ℕ) → Watched needed rest awake waiting → ((x y : ℕ) → y ∈ S → x ∈ row_of waiting y → x ∈ W)
    → Watched needed (rest ∩ ∁ S) ((awake ∪ W) ∩ (rest ∩ ∁ S)) waiting
watched_listed needed rest awake S W waiting o woke = record {
  long = o.long;
  inside = λ x e. and_right (awake x || W x) ((rest ∩ ∁ S) x) e;
  watched = λ x e n.
      let closed : (awake x || W x) ≡ false = not_true (awake x || W x) (λ k. true≢false (sym (and_in k e) ∙ n)) in
      let v : Some width (λ y. (y ∈ rest) × (y ∈ row_of needed x) × (x ∈ row_of waiting y)) =
      o.watched x (and_left (rest x) (not (S x)) e) (not_true (awake x) (λ k. true≢false (sym (or_left (awake x) (W x) k) ∙ closed))) in
      (v.0, v.1, (and_in v.2.0 (not_of (S v.0) (λ k. true≢false (sym (or_right (awake x) (W x) (woke x v.0 k v.2.2)) ∙ closed))), v.2.1, v.2.2));
}

module _ (n : ℕ) (E : Set) (b t : ℕ → ℕ → Bool) (columns : Set) (rows needed : List ℕ) (h : Ordered n E b t columns rows) (w : NeedsShown n E b t needed) where
  abbrev Open : Set
  Open = offered n E

  abbrev L : ℕ → Set
  L = listed n E b t

  abbrev B : ℕ → Set
  B = blocks_by n E b t

  abbrev Free : ℕ → Set
  Free k = permitted n E b t (L k)

  -- k blocks have been listed, and their columns have their numbers
  pub record Listing (k : ℕ) (rest : Set) (ns : List ℕ) : Type 0 where
    pub rest_is : (x : ℕ) → rest x ≡ (Open x && not (L k x))
    pub found : (i : ℕ) → i < k → Some n (λ x. x ∈ Free i)
    pub long : length ns ≡ most_columns
    pub numbered : (i x : ℕ) → i < k → x ∈ B i → get_or ns x 0 ≡ i
    pub unnumbered : (x : ℕ) → x < most_columns → L k x ≡ false → get_or ns x 0 ≡ no_column
    pub few : k + # n rest ≤ n

  pub listing_start : Listing 0 columns (replicate most_columns no_column)
  listing_start = record {
    rest_is = λ x. h.is_all x ∙ sym (ap (λ (v : Bool). Open x && not v) (listed_none n E b t x) ∙ and_true (Open x));
    found = λ i l. absurd (omega arith);
    long = refl;
    numbered = λ i x l. absurd (omega arith);
    unnumbered = λ x l e. get_or-replicate most_columns x no_column 0 l;
    few = omega (arith, #-le n columns);
  }
    where
      and_true : (v : Bool) → (v && true) ≡ v
      and_true true = refl
      and_true false = refl

  module _ (k : ℕ) (rest : Set) (ns : List ℕ) (s : Listing k rest ns) where
    rest_open : (x : ℕ) → x ∈ rest → (x ∈ Open) × (L k x ≡ false)
    rest_open x e =
        let v : (Open x && not (L k x)) ≡ true = sym (s.rest_is x) ∙ e in
        (and_left (Open x) (not (L k x)) v, not_true (L k x) (not_both (L k x) (and_right (Open x) (not (L k x)) v)))

    pub rest_below : (x : ℕ) → x ∈ rest → x < most_columns
    rest_below x e = omega (arith, ((offered_iff n E x).0 (rest_open x e).0).0, h.columns)

    open_rest : (x : ℕ) → x ∈ Open → L k x ≡ false → x ∈ rest
    open_rest x o e = s.rest_is x ∙ and_in o (ap not e)

    -- the code's test is that of the definition
    unneeded : (x : ℕ) → x ∈ Open → not (any width (rest ∩ row_of needed x)) ≡ all n (λ y. not (needs n E b t x y) || L k y)
    unneeded x o = iff_eq (not (any width (rest ∩ row_of needed x))) (all n (λ y. not (needs n E b t x y) || L k y))
        (λ e. (all_iff n (λ y. not (needs n E b t x y) || L k y)).1 (λ y l. implies (needs n E b t x y) (L k y) (λ m. elim (true? (L k y)) [
          | yes d ↦ d
          | no nd ↦ absurd (not_both (any width (rest ∩ row_of needed x)) e ((any_iff width (rest ∩ row_of needed x)).1
              (y, omega (arith, h.columns), and_in (open_rest y ((needs_iff n E b t x y).0 m).is_offered (not_true (L k y) nd)) (w x o y ∙ m))))
        ])))
        (λ e. not_of (any width (rest ∩ row_of needed x)) (λ m.
        let v : Some width (λ y. (rest ∩ row_of needed x) y ≡ true) = (any_iff width (rest ∩ row_of needed x)).0 m in
        let y : ℕ = v.0 in
        let r : (y ∈ Open) × (L k y ≡ false) = rest_open y (and_left (rest y) (row_of needed x y) v.2) in
        true≢false (sym (implied (needs n E b t x y) (L k y) ((all_iff n (λ y. not (needs n E b t x y) || L k y)).0 e y ((offered_iff n E y).0 r.0).0)
        (sym (w x o y) ∙ and_right (rest y) (row_of needed x y) v.2)) ∙ r.1)))

    abbrev free : Set
    free x = rest x && not (any width (rest ∩ row_of needed x))

    free_is : (x : ℕ) → free x ≡ Free k x
    free_is x = elim (true? (Open x)) [
      | yes o ↦ ap (λ (v : Bool). v && not (any width (rest ∩ row_of needed x))) (s.rest_is x)
          ∙ ap (λ (v : Bool). (Open x && not (L k x)) && v) (unneeded x o) ∙ sym (permitted_parts n E b t (L k) x)
      | no no' ↦ not_true (free x) (λ e. no' (rest_open x (and_left (rest x) _ e)).0)
          ∙ sym (not_true (Free k x) (λ e. no' ((permitted_iff n E b t (L k) x).0 e).is_offered))
    ]

    -- something is left: then a column is permitted, and the least is found
    module _ (some : Some width (λ x. x ∈ rest)) where
      permitted_one : Some n (λ x. x ∈ Free k)
      permitted_one =
          let r : (some.0 ∈ Open) × (L k some.0 ≡ false) = rest_open some.0 some.2 in
          some_free n E b t h.self h.via h.both (L k) some.0 r.0 (λ e. true≢false (sym e ∙ r.1))

      next : ℕ
      next = least n (Free k)

      next_below : next < n
      unfolding next
      next_below = let p : Some n (λ x. x ∈ Free k) = permitted_one in omega (arith, p.1, least_first n (Free k) p.0 p.1 p.2)

      next_free : Permitted n E b t (L k) next
      unfolding next
      next_free = (permitted_iff n E b t (L k) next).0 (least_in n (Free k) next_below)

      found_next : least width free ≡ next
      unfolding next
      found_next = least_is width next free (omega (arith, next_below, h.columns)) (free_is next ∙ least_in n (Free k) next_below)
          (λ x l. free_is x ∙ not_true (Free k x) (λ e. omega (arith, least_first n (Free k) x (omega (arith, next_below)) e)))

      -- one is awake, and the least of these is the least that is permitted, where it needs nothing that is left
      module _ (awake : Set) (waiting : List ℕ) (o : Watched needed rest awake waiting) where
        free_awake : (x : ℕ) → x ∈ free → x ∈ awake
        free_awake x e = elim (true? (awake x)) [
          | yes k ↦ k
          | no nk ↦
              let v : Some width (λ y. (y ∈ rest) × (y ∈ row_of needed x) × (x ∈ row_of waiting y)) = o.watched x (and_left (rest x) _ e) (not_true (awake x) nk) in
              absurd (not_both (any width (rest ∩ row_of needed x)) (and_right (rest x) _ e) ((any_iff width (rest ∩ row_of needed x)).1 (v.0, v.1, and_in v.2.0 v.2.1)))
        ]

        pub some_awake : # width awake ≢ 0
        some_awake z =
            let p : Some n (λ x. x ∈ Free k) = permitted_one in
            nothing_in width awake z p.0 (omega (arith, p.1, h.columns)) (free_awake p.0 (free_is p.0 ∙ p.2))

        pub least_awake : (x : ℕ) → x ≡ least width awake → # width (rest ∩ row_of needed x) ≡ 0 → x ≡ least width free
        least_awake x e none =
            let l : (least width awake < width) × (least width awake ∈ awake) = least_there width awake some_awake in
            sym (least_is width x free (rw e l.0)
            (and_in (o.inside x (rw e l.1)) (not_of (any width (rest ∩ row_of needed x)) (λ m.
            let v : Some width (λ y. (rest ∩ row_of needed x) y ≡ true) = (any_iff width (rest ∩ row_of needed x)).0 m in nothing_in width (rest ∩ row_of needed x) none v.0 v.1 v.2)))
            (λ y m. not_true (free y) (λ f. omega (arith, e, least_first width awake y (omega (arith, e, l.0)) (free_awake y f)))))

      module _ (x : ℕ) (is_next : x ≡ least width free) (S : Set) (is_block : S ≡ row_of rows x ∩ ∁ (row_of needed x)) where
        x_is : x ≡ next
        x_is = is_next ∙ found_next

        ox : x ∈ Open
        ox = rw x_is next_free.is_offered

        pub next_room : x < width
        next_room = omega (arith, x_is, next_below, h.columns)

        block_at : (y : ℕ) → S y ≡ B k y
        unfolding next
        block_at y = ap (λ (T : Set). T y) is_block ∙ ap (λ (v : Bool). row_of rows x y && not v) (w x ox y ∙ sym (others_needed n E b t columns rows h x y ox))
            ∙ iff_eq _ _ to from ∙ block_of_next n E b t k x x_is y
          where
            to : (row_of rows x y && not (row_of rows x y && not (block n E b t x y))) ≡ true → block n E b t x y ≡ true
            to e = elim (true? (block n E b t x y)) [
              | yes m ↦ m
              | no nm ↦ absurd (not_both _ (and_right (row_of rows x y) _ e) (and_in (and_left (row_of rows x y) _ e) (not_of (block n E b t x y) nm)))
            ]

            from : block n E b t x y ≡ true → (row_of rows x y && not (row_of rows x y && not (block n E b t x y))) ≡ true
            from e =
                let m : Block n E b t x y = (block_iff n E b t x y).0 e in
                and_in ((row_iff n E b t columns rows h x y).1 (ox, m.of, ((h.both x y).0 m.with).1))
                (not_of _ (λ v. not_both (block n E b t x y) (and_right (row_of rows x y) _ v) e))

        pub in_room : (y : ℕ) → y ∈ S → y < most_columns
        in_room y e = omega (arith, ((offered_iff n E y).0 (block_offered n E b t h.self h.via h.both k y (sym (block_at y) ∙ e))).0, h.columns)

        itself : x ∈ S
        unfolding next
        itself = block_at x ∙ sym (block_of_next n E b t k x x_is x) ∙ (block_iff n E b t x x).1 (record { at = ox; of = ox; with = (h.both x x).1 (h.self x, h.self x) })

        x_rest : x ∈ rest
        x_rest = open_rest x ox (not_true (L k x) (λ e. next_free.not_listed (rw x_is at e)))

        -- a round leaves less
        pub fewer_left : (m : ℕ) → x < m → # m (rest ∩ ∁ S) < # m rest
        fewer_left m l = #-strict m (rest ∩ ∁ S) rest (λ y ly e. and_left (rest y) (not (S y)) e) x l x_rest (λ e. not_both (S x) (and_right (rest x) (not (S x)) e) itself)

        pub few_rounds : k < most_columns
        few_rounds = omega (arith, s.few, h.columns, fewer_left n (rw x_is next_below))

        pub listing_more : (ns' : List ℕ) → Numbered S k ns ns' → Listing (k + 1) (rest ∩ ∁ S) ns'
        listing_more ns' d = record {
          rest_is = λ y. ap (λ (v : Bool). v && not (S y)) (s.rest_is y) ∙ ap (λ (v : Bool). (Open y && not (L k y)) && not v) (block_at y)
              ∙ both_not (Open y) (L k y) (B k y) ∙ sym (ap (λ (v : Bool). Open y && not v) (listed_next n E b t k y));
          found = λ i l. elim (ℕ_discrete i k) [ yes e ↦ rw e permitted_one | no ne ↦ s.found i (omega arith) ];
          long = d.same_length ∙ s.long;
          numbered = λ i y l e.
              let ly : y < length ns = omega (arith, s.long, ((offered_iff n E y).0 (block_offered n E b t h.self h.via h.both i y e)).0, h.columns) in
              d.each y ly ∙ elim (ℕ_discrete i k) [
                | yes z ↦ ap (λ (v : Bool). cond v k (get_or ns y 0)) (block_at y ∙ rw z at e) ∙ sym z
                | no nz ↦ ap (λ (v : Bool). cond v k (get_or ns y 0)) (not_true (S y) (λ m. fresh n E b t h.self h.via h.both k y (sym (block_at y) ∙ m)
                    (in_listed n E b t h.self h.via h.both i k y (omega arith) e))) ∙ s.numbered i y (omega arith) e
              ];
          unnumbered = λ y l e.
              let v : (L k y || B k y) ≡ false = sym (listed_next n E b t k y) ∙ e in
              d.each y (omega (arith, s.long))
              ∙ ap (λ (u : Bool). cond u k (get_or ns y 0)) (block_at y ∙ not_true (B k y) (λ m. true≢false (sym (or_right (L k y) (B k y) m) ∙ v)))
              ∙ s.unnumbered y l (not_true (L k y) (λ m. true≢false (sym (or_left (L k y) (B k y) m) ∙ v)));
          few = omega (arith, s.few, fewer_left n (rw x_is next_below));
        }
          where
            both_not : (o l v : Bool) → ((o && not l) && not v) ≡ (o && not (l || v))
            both_not true true v = refl
            both_not true false v = refl
            both_not false l v = refl

    -- nothing is left: all is listed
    pub listing_done : # width rest ≡ 0 → (r : Blocks) → r.refusal ≡ 0 → r.count ≡ k → r.numbers ≡ ns → ListedBy n E b t r
    listing_done none r no_refusal is-count is-ns = record {
      no_refusal = no_refusal;
      count_is = is-count ∙ sym (count_stops n E b t h.self h.via h.both k s.found (λ p.
          let m : Permitted n E b t (L k) p.0 = (permitted_iff n E b t (L k) p.0).0 p.2 in
          m.not_listed (all_listed p.0 m.is_offered)));
      in_its_block = λ x o.
          let v : Some k (λ i. x ∈ B i) = listed_from n E b t h.self h.via h.both k x (all_listed x o) in
          let e : get_or r.numbers x 0 ≡ v.0 = ap (λ (l : List ℕ). get_or l x 0) is-ns ∙ s.numbered v.0 x v.1 v.2 in
          (omega (arith, e, v.1, is-count), rw e v.2);
      others = λ x l no'. ap (λ (l : List ℕ). get_or l x 0) is-ns ∙ s.unnumbered x l (not_true (L k x) (λ e.
          let v : Some k (λ i. x ∈ B i) = listed_from n E b t h.self h.via h.both k x e in
          no' (block_offered n E b t h.self h.via h.both v.0 x v.2)));
      long = ap length is-ns ∙ s.long;
    }
      where
        all_listed : (x : ℕ) → x ∈ Open → x ∈ L k
        all_listed x o = elim (true? (L k x)) [
          | yes e ↦ e
          | no ne ↦ absurd (nothing_in width rest none x (omega (arith, ((offered_iff n E x).0 o).0, h.columns)) (open_rest x o (not_true (L k x) ne)))
        ]

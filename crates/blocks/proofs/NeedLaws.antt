-- What must come before the block of each column, by the size of the columns' rows. Assumes nothing.
use Prim.Native.Nat.{ℕ, ◌+◌, ◌-◌, ◌≤◌, ◌<◌}
use mathlib.Core.Path.{◌≡◌, refl, sym, ap, ◌∙◌}
use mathlib.Core.Logic.{◌≢◌, ◌↔◌, inl, inr}
use mathlib.Core.Bool.{Bool, true, false, not, ◌&&◌, true≢false}
use mathlib.Core.List.{List}
use native.Mathlib.Omega.{arith}
use native.Mathlib.Decide.{ℕ_discrete}
use lib.Dec.{eqb}
use lib.ListN.{length, replicate}
use borrow.Author.Tests.{eqb-true, eq-eqb, ne_eqb}
use Rattle.limits.specs.Limits.{most_columns, most_rows}
use Rattle.counting.specs.Bools.{true?, not_true, iff_eq, and_in, and_left, and_right, not_both, not_of}
use Rattle.counting.specs.Sets.{Set, ◌∈◌, ◌⊆◌, ◌∩◌, ∁, #}
use Rattle.counting.specs.Counts.{#-ext, #-le, #-none}
use Rattle.counting.specs.Injections.{#-strict}
use Rattle.counting.specs.Blocks.{#-plus}
use Rattle.columns.specs.Columns.{width, members, inserted, removed}
use Rattle.columns.specs.ColumnSets.{row_words, most_words, with_row}
use Rattle.columns.specs.Words.Rows.{rows_length, most_words_rows, with_row_length}
use Rattle.columns.specs.Words.SetLaws.{inserted_same, inserted_old, inserted_split, removed_old, removed_gone, removed_other}
use Rattle.relation.specs.Relations.{row_of, HasRow}
use Rattle.relation.specs.RowLaws.{put_same, put_other, no_rows}
use Rattle.listings.specs.Offered.{offered, offered_iff}
use Rattle.listings.specs.Blocks.{block, needs}
use Rattle.listings.specs.Listings.Tests.{Block, block_iff, Needs, needs_iff}
use Rattle.blocks.specs.Code.{Ordered, BySize, NeedsShown}

module _ (n : ℕ) (E : Set) (b t : ℕ → ℕ → Bool) where
  abbrev Open : Set
  Open = offered n E

  -- what stands in the rows is the block of a column and what it needs
  module _ (all : Set) (rows : List ℕ) (h : Ordered n E b t all rows) where
    abbrev R : ℕ → Set
    R = row_of rows

    pub row_iff : (x y : ℕ) → (y ∈ R x) ↔ ((x ∈ Open) × (y ∈ Open) × (b y x ≡ true))
    row_iff x y = (
      (λ e.
          let w : (Open x && Open y && b y x) ≡ true = sym (h.shows x y) ∙ e in
          let o : (Open x && Open y) ≡ true = and_left (Open x && Open y) (b y x) w in
          (and_left (Open x) (Open y) o, and_right (Open x) (Open y) o, and_right (Open x && Open y) (b y x) w)),
      λ w. h.shows x y ∙ and_in (and_in w.0 w.1) w.2,
    )

    share_sym : (x y : ℕ) → t x y ≡ true → t y x ≡ true
    share_sym x y e = let w : (b x y ≡ true) × (b y x ≡ true) = (h.both x y).0 e in (h.both y x).1 (w.1, w.0)

    -- the others in a row are what the block needs
    pub others_needed : (x y : ℕ) → x ∈ Open → (R x y && not (block n E b t x y)) ≡ needs n E b t x y
    others_needed x y ox = iff_eq (R x y && not (block n E b t x y)) (needs n E b t x y)
        (λ e.
        let v : (x ∈ Open) × (y ∈ Open) × (b y x ≡ true) = (row_iff x y).0 (and_left (R x y) (not (block n E b t x y)) e) in
        (needs_iff n E b t x y).1 (record {
          is_offered = v.1;
          is_before = v.2;
          apart = λ s. not_both (block n E b t x y) (and_right (R x y) (not (block n E b t x y)) e)
              ((block_iff n E b t x y).1 (record { at = ox; of = v.1; with = share_sym y x s }));
        }))
        (λ e.
        let w : Needs n E b t x y = (needs_iff n E b t x y).0 e in
        and_in ((row_iff x y).1 (ox, w.is_offered, w.is_before)) (not_of (block n E b t x y) (λ k. w.apart (share_sym x y ((block_iff n E b t x y).0 k).with))))

    -- a row has at most as many columns as a model
    row_few : (x : ℕ) → # width (R x) ≤ most_columns
    row_few x =
        let z : most_columns + (width - most_columns) ≡ width = refl in
        omega (
          arith,
          #-le most_columns (R x),
          #-plus most_columns (width - most_columns) (R x),
          #-ext (width - most_columns) (λ r. R x (most_columns + r)) (λ r. false)
              (λ r l. not_true (R x (most_columns + r)) (λ e. omega (arith, ((offered_iff n E (most_columns + r)).0 ((row_iff x (most_columns + r)).0 e).1).0, h.columns))),
          #-none (width - most_columns),
        )

    -- what stands in the row of x and has a row of the same size is its block
    pub same_size : (x y : ℕ) → x ∈ Open → y ∈ R x → (# width (R y) ≡ # width (R x)) ↔ (y ∈ block n E b t x)
    same_size x y ox ey = (
      (λ e. (block_iff n E b t x y).1 (record {
        at = ox;
        of = v.1;
        with = (h.both x y).1 (
          elim (true? (R y x)) [
            | yes m ↦ ((row_iff y x).0 m).2
            | no nm ↦ absurd (omega (arith, e, #-strict width (R y) (R x) within x (omega (arith, ((offered_iff n E x).0 ox).0, h.columns)) ((row_iff x x).1 (ox, ox, h.self x)) nm))
          ],
          v.2,
        );
      })),
      λ e. #-ext width (R y) (R x) (λ z l. same z ((block_iff n E b t x y).0 e)),
    )
      where
        v : (x ∈ Open) × (y ∈ Open) × (b y x ≡ true)
        v = (row_iff x y).0 ey

        within : (z : ℕ) → z < width → z ∈ R y → z ∈ R x
        within z l e = let w : (y ∈ Open) × (z ∈ Open) × (b z y ≡ true) = (row_iff y z).0 e in (row_iff x z).1 (ox, w.1, h.via z y x w.2 v.2)

        same : (z : ℕ) → Block n E b t x y → R y z ≡ R x z
        same z w =
            let u : (b x y ≡ true) × (b y x ≡ true) = (h.both x y).0 w.with in
            iff_eq (R y z) (R x z)
            (λ e. let k : (y ∈ Open) × (z ∈ Open) × (b z y ≡ true) = (row_iff y z).0 e in (row_iff x z).1 (ox, k.1, h.via z y x k.2 u.1))
            (λ e. let k : (x ∈ Open) × (z ∈ Open) × (b z x ≡ true) = (row_iff x z).0 e in (row_iff y z).1 (w.of, k.1, h.via z x y k.2 u.0))

    -- so the rest of its row is what the block needs
    pub rest_needed : (table : List ℕ) → BySize all rows table → (x y : ℕ) → x ∈ Open → (R x y && not (row_of table (# width (R x)) y)) ≡ needs n E b t x y
    rest_needed table s x y ox = iff_eq (R x y && not (row_of table k y)) (needs n E b t x y)
        (λ e. let ey : y ∈ R x = and_left (R x y) (not (row_of table k y)) e in
        sym (others_needed x y ox) ∙ and_in ey (not_of (block n E b t x y) (λ m. not_both (row_of table k y) (and_right (R x y) (not (row_of table k y)) e)
        (at ∙ and_in (h.is_all y ∙ ((row_iff x y).0 ey).1) (eq-eqb _ _ ((same_size x y ox ey).1 m))))))
        (λ e. let m : (R x y && not (block n E b t x y)) ≡ true = others_needed x y ox ∙ e in
        let ey : y ∈ R x = and_left (R x y) (not (block n E b t x y)) m in
        and_in ey (not_of (row_of table k y) (λ u. not_both (block n E b t x y) (and_right (R x y) (not (block n E b t x y)) m)
        ((same_size x y ox ey).0 (eqb-true _ _ (and_right (all y) (eqb (# width (R y)) k) (sym at ∙ u)))))))
      where
        k : ℕ
        k = # width (R x)

        at : row_of table k y ≡ (all y && eqb (# width (R y)) k)
        at = s.sized k y (row_few x)

-- ---- the columns by the size of their rows

-- the columns of `all` that are not in `rest` stand in the table
pub record Sizing (all rest : Set) (rows table : List ℕ) : Type 0 where
  pub long : length table ≡ most_words + row_words
  pub inside : rest ⊆ all
  pub sized : (k y : ℕ) → k ≤ most_columns → row_of table k y ≡ ((all y && not (rest y)) && eqb (# width (row_of rows y)) k)

pub sizing_start : (all : Set) (rows : List ℕ) → Sizing all all rows (replicate (most_words + row_words) 0)
sizing_start all rows = record {
  long = refl;
  inside = λ x e. e;
  sized = λ k y l. ap (λ (S : Set). S y) (no_rows (most_words + row_words) k) ∙ sym (ap (λ (v : Bool). v && eqb (# width (row_of rows y)) k) (and_not (all y)));
}
  where
    and_not : (v : Bool) → (v && not v) ≡ false
    and_not true = refl
    and_not false = refl

sizing_more : (all rest : Set) (rows table : List ℕ) (x w : ℕ) → x < width → x ∈ rest → Sizing all rest rows table
    → members w ≡ inserted (row_of table (# width (row_of rows x))) x → Sizing all (removed rest x) rows (with_row table (# width (row_of rows x)) w)
sizing_more all rest rows table x w lx ex s e = record {
  long = with_row_length table k₀ w ∙ s.long;
  inside = λ y m. s.inside y (removed_old rest x y m);
  sized = λ k y l. elim (ℕ_discrete k k₀) [
    | no nk ↦ ap (λ (S : Set). S y) (put_other table k₀ w k nk) ∙ s.sized k y l ∙ elim (ℕ_discrete y x) [
      | no ny ↦ ap (λ (v : Bool). (all y && not v) && eqb (# width (row_of rows y)) k) (sym (same y ny))
      | yes d ↦ rw d (ap (λ (v : Bool). (all x && not v) && eqb k₀ k) ex ∙ ap (λ (v : Bool). v && eqb k₀ k) (and_false (all x))
          ∙ sym (ap (λ (v : Bool). (all x && not (removed rest x x)) && v) (ne_eqb k₀ k (λ z. nk (sym z))) ∙ and_false (all x && not (removed rest x x))))
    ]
    | yes d ↦
        let here : HasRow table k₀ = omega (arith, rows_length table, s.long, d) in
        rw d (ap (λ (S : Set). S y) (put_same table k₀ w here ∙ e) ∙ elim (ℕ_discrete y x) [
          | yes z ↦ rw z (inserted_same (row_of table k₀) x lx
              ∙ sym (and_in (and_in (s.inside x ex) (not_of (removed rest x x) (λ m. removed_gone rest x x m refl))) (eq-eqb k₀ k₀ refl)))
          | no nz ↦ inserted_other y nz ∙ s.sized k₀ y (rw d at l) ∙ ap (λ (v : Bool). (all y && not v) && eqb (# width (row_of rows y)) k₀) (sym (same y nz))
        ])
  ];
}
  where
    k₀ : ℕ
    k₀ = # width (row_of rows x)

    and_false : (v : Bool) → (v && false) ≡ false
    and_false true = refl
    and_false false = refl

    same : (y : ℕ) → y ≢ x → removed rest x y ≡ rest y
    same y ny = iff_eq (removed rest x y) (rest y) (λ m. removed_old rest x y m) (λ m. removed_other rest x y m ny)

    inserted_other : (y : ℕ) → y ≢ x → inserted (row_of table k₀) x y ≡ row_of table k₀ y
    inserted_other y ny = iff_eq (inserted (row_of table k₀) x y) (row_of table k₀ y)
        (λ m. elim (inserted_split (row_of table k₀) x y m) [ inl d ↦ absurd (ny d) | inr o ↦ o ])
        (λ m. inserted_old (row_of table k₀) x y m)

pub sizing_turn : (all rest : Set) (rows table : List ℕ) (x w k : ℕ) → x < width → x ∈ rest → Sizing all rest rows table → k ≡ # width (row_of rows x)
    → members w ≡ inserted (row_of table k) x → Sizing all (removed rest x) rows (with_row table k w)
sizing_turn all rest rows table x w k lx ex s d e = rw d (sizing_more all rest rows table x w lx ex s (rw d at e))

pub sizing_done : (all rest : Set) (rows table : List ℕ) → Sizing all rest rows table → ((x : ℕ) → x ∈ rest → ⊥) → BySize all rows table
sizing_done all rest rows table s none_left = record {
  sized = λ k y l. s.sized k y l ∙ ap (λ (v : Bool). (all y && not v) && eqb (# width (row_of rows y)) k) (not_true (rest y) (none_left y))
      ∙ ap (λ (v : Bool). v && eqb (# width (row_of rows y)) k) (and_true (all y));
}
  where
    and_true : (v : Bool) → (v && true) ≡ v
    and_true true = refl
    and_true false = refl

-- ---- what is needed, a column after another

-- the rows of the columns of `all` that are not in `rest` are written
pub record Needing (all rest : Set) (f : ℕ → Set) (ws : List ℕ) : Type 0 where
  pub long : length ws ≡ most_words
  pub inside : rest ⊆ all
  pub made : (x y : ℕ) → x < most_rows → x ∈ all → rest x ≡ false → row_of ws x y ≡ f x y

pub needing_start : (all : Set) (f : ℕ → Set) → Needing all all f (replicate most_words 0)
needing_start all f = record { long = refl; inside = λ x e. e; made = λ x y l e n. absurd (true≢false (sym e ∙ n)) }

pub needing_more : (all rest : Set) (f : ℕ → Set) (ws : List ℕ) (x w : ℕ) → x ∈ rest → Needing all rest f ws → members w ≡ f x → Needing all (removed rest x) f (with_row ws x w)
needing_more all rest f ws x w ex s e = record {
  long = with_row_length ws x w ∙ s.long;
  inside = λ y m. s.inside y (removed_old rest x y m);
  made = λ z y l m n. elim (ℕ_discrete z x) [
    | yes d ↦ rw d (ap (λ (S : Set). S y) (put_same ws x w (omega (arith, most_words_rows ws s.long, l, d)) ∙ e))
    | no nd ↦ ap (λ (S : Set). S y) (put_other ws x w z nd) ∙ s.made z y l m (not_true (rest z) (λ k. true≢false (sym (removed_other rest x z k nd) ∙ n)))
  ];
}

-- the rest of each row, without the columns whose rows are of its size
abbrev pub unlike : (rows table : List ℕ) → ℕ → Set
unlike rows table x = row_of rows x ∩ ∁ (row_of table (# width (row_of rows x)))

pub needing_done : (n : ℕ) (E : Set) (b t : ℕ → ℕ → Bool) (all rest : Set) (rows table ws : List ℕ) → Ordered n E b t all rows → BySize all rows table
    → Needing all rest (unlike rows table) ws → ((x : ℕ) → x ∈ rest → ⊥) → NeedsShown n E b t ws
needing_done n E b t all rest rows table ws h s k none_left x o y =
    k.made x y (omega (arith, ((offered_iff n E x).0 o).0, h.columns)) (h.is_all x ∙ o) (not_true (rest x) (none_left x)) ∙ rest_needed n E b t all rows h table s x y o

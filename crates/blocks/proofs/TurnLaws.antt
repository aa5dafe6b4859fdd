-- The loops over the columns of a set: those that wait for one of it, and the number of a block; and the least of a set. Assumes nothing.
use Prim.Native.Nat.{ℕ, ◌<◌}
use mathlib.Core.Path.{◌≡◌, refl, sym, ap, ◌∙◌}
use mathlib.Core.Logic.{◌≢◌, ◌⊎◌, inl, inr}
use mathlib.Core.Bool.{Bool, false, cond, true≢false}
use mathlib.Core.List.{List}
use native.Mathlib.Omega.{arith}
use native.Mathlib.Decide.{ℕ_discrete, dec_lt}
use lib.ListN.{length, get_or, length-set}
use lib.ListN as ListN
use lib.Seq.{get_or-set_same, get_or-set_other}
use Rattle.counting.specs.Bools.{true?, not_true, or_left, or_right}
use Rattle.counting.specs.Sets.{Set, ◌∈◌, ◌⊆◌, ◌∪◌}
use Rattle.columns.specs.Columns.{least, members, inserted, removed}
use Rattle.columns.specs.ColumnSets.{row_numbers, with_row}
use Rattle.columns.specs.Words.Operations.{least_in, least_first}
use Rattle.columns.specs.Words.Rows.{with_row_length}
use Rattle.columns.specs.Words.SetLaws.{inserted_same, inserted_old, removed_old, removed_gone, removed_other}
use Rattle.relation.specs.Relations.{row_of}
use Rattle.relation.specs.RowLaws.{put_same, put_other, put_past}
use Rattle.blocks.specs.Code.{Waits, Numbered}

-- a column that is not left after x is taken out was not left, or is x
gone : (rest : Set) (x y : ℕ) → y ≢ x → removed rest x y ≡ false → rest y ≡ false
gone rest x y ne e = not_true (rest y) (λ k. true≢false (sym (removed_other rest x y k ne) ∙ e))

-- ---- the least of a set

pub least_is : (n k : ℕ) (S : Set) → k < n → k ∈ S → ((x : ℕ) → x < k → S x ≡ false) → least n S ≡ k
least_is n k S l e none = elim (dec_lt (least n S) k) [
  | yes m ↦ absurd (true≢false (sym (least_in n S (omega arith)) ∙ none (least n S) m))
  | no nm ↦ omega (arith, least_first n S k l e)
]

-- ---- the columns that wait

pub waits_put : (ws : List ℕ) (y x w : ℕ) → members w ≡ inserted (row_of ws y) x → Waits y x ws (with_row ws y w)
waits_put ws y x w e = record {
  same_length = with_row_length ws y w;
  more = λ z v m. elim (ℕ_discrete z y) [
    | no nz ↦ ap (λ (S : Set). S v) (put_other ws y w z nz) ∙ m
    | yes d ↦ elim (dec_lt y (length (row_numbers ws))) [
      | yes l ↦ rw d (ap (λ (S : Set). S v) (put_same ws y w l ∙ e) ∙ inserted_old (row_of ws y) x v (rw d at m))
      | no nl ↦ rw d (ap (λ (S : Set). S v) (put_past ws y w y (omega arith)) ∙ rw d at m)
    ]
  ];
  itself = λ lx l. ap (λ (S : Set). S x) (put_same ws y w l ∙ e) ∙ inserted_same (row_of ws y) x lx;
}

-- the columns that wait for one of `set` that is not left have been met
abbrev pub Waking : (waiting : List ℕ) (set rest all : Set) → Type 0
Waking waiting set rest all = (rest ⊆ set) × ((x y : ℕ) → y ∈ set → rest y ≡ false → x ∈ row_of waiting y → x ∈ all)

pub waking_start : (waiting : List ℕ) (set all : Set) → Waking waiting set set all
waking_start waiting set all = ((λ x e. e), λ x y e n. absurd (true≢false (sym e ∙ n)))

pub waking_more : (waiting : List ℕ) (set rest all row : Set) (y : ℕ) → Waking waiting set rest all → row ≡ row_of waiting y → Waking waiting set (removed rest y) (all ∪ row)
waking_more waiting set rest all row y h e = (
  (λ x m. h.0 x (removed_old rest y x m)),
  λ x z ez n m. elim (ℕ_discrete z y) [
    | yes d ↦ or_right (all x) (row x) (ap (λ (S : Set). S x) e ∙ rw d at m)
    | no nd ↦ or_left (all x) (row x) (h.1 x z ez (gone rest y z nd n) m)
  ],
)

-- ---- the number of a block

-- the columns of a block that are not left have its number
pub record Numbering (block rest : Set) (k : ℕ) (ns₀ ns : List ℕ) : Type 0 where
  pub same_length : length ns ≡ length ns₀
  pub inside : rest ⊆ block
  pub numbered : (x : ℕ) → x < length ns₀ → x ∈ block → rest x ≡ false → get_or ns x 0 ≡ k
  pub left : (x : ℕ) → (block x ≡ false) ⊎ (x ∈ rest) → get_or ns x 0 ≡ get_or ns₀ x 0

pub numbering_start : (block : Set) (k : ℕ) (ns : List ℕ) → Numbering block block k ns ns
numbering_start block k ns = record { same_length = refl; inside = λ x e. e; numbered = λ x l e n. absurd (true≢false (sym e ∙ n)); left = λ x e. refl }

pub numbering_more : (block rest : Set) (k : ℕ) (ns₀ ns : List ℕ) (x : ℕ) → x ∈ rest → Numbering block rest k ns₀ ns → Numbering block (removed rest x) k ns₀ (ListN.set ns x k)
numbering_more block rest k ns₀ ns x ex h = record {
  same_length = length-set ns x k ∙ h.same_length;
  inside = λ z e. h.inside z (removed_old rest x z e);
  numbered = λ z l e n. elim (ℕ_discrete z x) [
    | yes d ↦ rw d (get_or-set_same ns x k 0 (omega (arith, h.same_length)))
    | no nd ↦ get_or-set_other ns x z k 0 nd ∙ h.numbered z l e (gone rest x z nd n)
  ];
  left = λ z e. elim (ℕ_discrete z x) [
    | yes d ↦ absurd (elim e [ inl n ↦ true≢false (sym (h.inside x ex) ∙ rw d at n) | inr n ↦ removed_gone rest x z n d ])
    | no nd ↦ get_or-set_other ns x z k 0 nd ∙ h.left z (elim e [ inl n ↦ inl n | inr n ↦ inr (removed_old rest x z n) ])
  ];
}

pub numbering_done : (block rest : Set) (k : ℕ) (ns₀ ns : List ℕ) → Numbering block rest k ns₀ ns → ((x : ℕ) → x ∈ rest → ⊥) → Numbered block k ns₀ ns
numbering_done block rest k ns₀ ns h none = record {
  same_length = h.same_length;
  each = λ x l. elim (true? (block x)) [
    | yes e ↦ h.numbered x l e (not_true (rest x) (none x)) ∙ sym (ap (λ (b : Bool). cond b k (get_or ns₀ x 0)) e)
    | no ne ↦ let e : block x ≡ false = not_true (block x) ne in h.left x (inl e) ∙ sym (ap (λ (b : Bool). cond b k (get_or ns₀ x 0)) e)
  ];
}

-- The loops over levels, heights and tight entries: their invariants, each with how it starts and what a turn does to it. Assumes nothing.
use Prim.Native.Nat.{ℕ, ◌+◌, ◌*◌, ◌<◌, ◌≤◌}
use mathlib.Core.Path.{◌≡◌, refl, sym, ap, ◌∙◌}
use mathlib.Core.Logic.{◌≢◌, ◌⊎◌, inl, inr}
use mathlib.Core.Bool.{Bool, false, ◌&&◌, cond, true≢false}
use mathlib.Core.List.{List}
use native.Mathlib.Omega.{arith}
use native.Mathlib.Decide.{ℕ_discrete, dec_lt}
use lib.Dec.{eqb}
use lib.ListN.{length, get_or, length-set, replicate, get_or-replicate, get_or-eq_default, length-replicate}
use lib.ListN as ListN
use lib.Seq.{get_or-set_same, get_or-set_other}
use borrow.Author.Tests.{eqb-true, eq-eqb}
use Rattle.limits.specs.Limits.{most_columns}
use Rattle.counting.specs.Bools.{true?, not_true, iff_eq, and_in, and_right}
use Rattle.counting.specs.Sets.{Set, ◌∈◌, ◌⊆◌}
use Rattle.columns.specs.Columns.{members, removed}
use Rattle.columns.specs.ColumnSets.{row_numbers, with_row}
use Rattle.columns.specs.Words.Rows.{rows_with_row}
use Rattle.columns.specs.Words.SetLaws.{removed_old, removed_gone, removed_other}
use Rattle.degree.specs.Code.{AtLevel, TightParameters, Low}

-- taking out x leaves the others as they are
beside : (S : Set) (x z : ℕ) → z ≢ x → removed S x z ≡ S z
beside S x z ne = iff_eq (removed S x z) (S z) (removed_old S x z) (λ e. removed_other S x z e ne)

-- ---- numbers written one behind the other

-- the first q numbers have been written, and no others
pub record Written (q : ℕ) (f : ℕ → ℕ) (ns₀ ns : List ℕ) : Type 0 where
  pub same_length : length ns ≡ length ns₀
  pub done : (i : ℕ) → i < q → get_or ns i 0 ≡ f i
  pub left : (i : ℕ) → q ≤ i → get_or ns i 0 ≡ get_or ns₀ i 0

-- ---- numbers changed at the columns of a set, which are taken one by one

-- at the columns that are not left the numbers have been changed, and at no others
pub record Visited (f : ℕ → ℕ) (set rest : Set) (ns₀ ns : List ℕ) : Type 0 where
  pub same_length : length ns ≡ length ns₀
  pub inside : rest ⊆ set
  pub done : (x : ℕ) → x ∈ set → rest x ≡ false → get_or ns x 0 ≡ f x
  pub left : (x : ℕ) → (set x ≡ false) ⊎ (x ∈ rest) → get_or ns x 0 ≡ get_or ns₀ x 0

pub visited_more : (f : ℕ → ℕ) (set rest : Set) (ns₀ ns : List ℕ) (x v : ℕ) → x ∈ rest → x < length ns → v ≡ f x
    → Visited f set rest ns₀ ns → Visited f set (removed rest x) ns₀ (ListN.set ns x v)
visited_more f set rest ns₀ ns x v ex l e h = record {
  same_length = length-set ns x v ∙ h.same_length;
  inside = λ z m. h.inside z (removed_old rest x z m);
  done = λ z m n. elim (ℕ_discrete z x) [
    | yes d ↦ rw d (get_or-set_same ns x v 0 l ∙ e)
    | no nd ↦ get_or-set_other ns x z v 0 nd ∙ h.done z m (sym (beside rest x z nd) ∙ n)
  ];
  left = λ z k. elim (ℕ_discrete z x) [
    | yes d ↦ absurd (elim k [ inl n ↦ true≢false (sym (h.inside x ex) ∙ rw d at n) | inr n ↦ removed_gone rest x z n d ])
    | no nd ↦ get_or-set_other ns x z v 0 nd ∙ h.left z (elim k [ inl n ↦ inl n | inr n ↦ inr (removed_old rest x z n) ])
  ];
}

-- where none is left, they are changed on the set
pub visited_done : (f : ℕ → ℕ) (set rest : Set) (ns₀ ns : List ℕ) → ((x : ℕ) → x ∈ rest → ⊥) → Visited f set rest ns₀ ns
    → (x : ℕ) → get_or ns x 0 ≡ cond (set x) (f x) (get_or ns₀ x 0)
visited_done f set rest ns₀ ns none h x = elim (true? (set x)) [
  | yes e ↦ h.done x e (not_true (rest x) (none x)) ∙ sym (ap (λ (b : Bool). cond b (f x) (get_or ns₀ x 0)) e)
  | no ne ↦ let e : set x ≡ false = not_true (set x) ne in h.left x (inl e) ∙ sym (ap (λ (b : Bool). cond b (f x) (get_or ns₀ x 0)) e)
]

-- a list of zeros has no other number
pub zeros : (k x : ℕ) → get_or {A = ℕ} (replicate k 0) x 0 ≡ 0
zeros k x = elim (dec_lt x k) [
  | yes l ↦ get_or-replicate {A = ℕ} k x 0 0 l
  | no nl ↦ get_or-eq_default {A = ℕ} (replicate k 0) 0 (omega (arith, length-replicate {A = ℕ} k 0))
]

-- ---- the tight entries

pub tight_parameters_more : (n a r : ℕ) (ws pp heights levels out : List ℕ) (w : ℕ) → r < length (row_numbers out)
    → TightParameters n a r ws pp heights levels (row_numbers out)
    → AtLevel n (r * n) (get_or levels (a + r) 0) pp heights (members (get_or ws r 0)) (members w)
    → TightParameters n a (r + 1) ws pp heights levels (row_numbers (with_row out r w))
tight_parameters_more n a r ws pp heights levels out w l t s i x li lx = rw (rows_with_row out r w) (elim (ℕ_discrete i r) [
  | yes d ↦ rw d (ap (λ (v : ℕ). members v x) (get_or-set_same (row_numbers out) r w 0 l) ∙ s x lx)
  | no nd ↦ ap (λ (v : ℕ). members v x) (get_or-set_other (row_numbers out) r i w 0 nd) ∙ t i x (omega arith) lx
])

-- of a row's columns that are not left, those at the level have been kept
pub record Keeping (from level : ℕ) (pp heights : List ℕ) (row rest kept : Set) : Type 0 where
  pub inside : rest ⊆ row
  pub left : rest ⊆ kept
  pub done : (x : ℕ) → rest x ≡ false → kept x ≡ (row x && eqb (get_or pp (from + x) 0 + get_or heights x 0) level)

-- x is at the level and stays,
pub keeping_stays : (from level : ℕ) (pp heights : List ℕ) (row rest kept : Set) (x : ℕ) → x ∈ rest → get_or pp (from + x) 0 + get_or heights x 0 ≡ level
    → Keeping from level pp heights row rest kept → Keeping from level pp heights row (removed rest x) kept
keeping_stays from level pp heights row rest kept x ex e h = record {
  inside = λ z m. h.inside z (removed_old rest x z m);
  left = λ z m. h.left z (removed_old rest x z m);
  done = λ z m. elim (ℕ_discrete z x) [
    | yes d ↦ rw d (h.left x ex ∙ sym (and_in (h.inside x ex) (eq-eqb (get_or pp (from + x) 0 + get_or heights x 0) level e)))
    | no nd ↦ h.done z (sym (beside rest x z nd) ∙ m)
  ];
}

-- or is not, and goes
pub keeping_goes : (from level : ℕ) (pp heights : List ℕ) (row rest kept : Set) (x : ℕ) → get_or pp (from + x) 0 + get_or heights x 0 ≢ level
    → Keeping from level pp heights row rest kept → Keeping from level pp heights row (removed rest x) (removed kept x)
keeping_goes from level pp heights row rest kept x ne h = record {
  inside = λ z m. h.inside z (removed_old rest x z m);
  left = λ z m. removed_other kept x z (h.left z (removed_old rest x z m)) (removed_gone rest x z m);
  done = λ z m. elim (ℕ_discrete z x) [
    | yes d ↦ rw d (iff_eq (removed kept x x) (row x && eqb (get_or pp (from + x) 0 + get_or heights x 0) level)
        (λ e. absurd (removed_gone kept x x e refl))
        (λ e. absurd (ne (eqb-true (get_or pp (from + x) 0 + get_or heights x 0) level (and_right (row x) (eqb (get_or pp (from + x) 0 + get_or heights x 0) level) e)))))
    | no nd ↦ beside kept x z nd ∙ h.done z (sym (beside rest x z nd) ∙ m)
  ];
}

-- ---- the first heights

pub low_start : (n : ℕ) → n ≤ most_columns → Low n (replicate most_columns 16)
low_start n h x l = rw (get_or-replicate {A = ℕ} most_columns x 16 0 (omega arith)) (omega arith, omega arith)

pub low_more : (n x v : ℕ) (ns : List ℕ) → x < length ns → 1 ≤ v → v ≤ 16 → Low n ns → Low n (ListN.set ns x v)
low_more n x v ns l a b h z lz = elim (ℕ_discrete z x) [
  | yes d ↦ let e : get_or (ListN.set ns x v) x 0 ≡ v = get_or-set_same ns x v 0 l in rw d (omega (arith, e), omega (arith, e))
  | no nd ↦ rw (get_or-set_other ns x z v 0 nd) (h z lz)
]

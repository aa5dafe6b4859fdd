-- An entry of the layered form by its place. Assumes nothing.
use Prim.Native.Nat.{ℕ, zero, suc, ◌+◌, ◌-◌, ◌*◌, ◌/◌, ◌%◌, ◌≤◌, ◌<◌}
use mathlib.Core.Path.{◌≡◌, ap, ◌∙◌}
use mathlib.Core.Logic.{◌≢◌}
use mathlib.Core.List.{List}
use native.Mathlib.Omega.{arith}
use native.Mathlib.Nat.{mod-lt, div-lt_iff_lt-mul, mul-zero, mul-le-mul}
use lib.ListN.{get_or}
use lib.Dec.{eqb}
use borrow.Author.Tests.{eq-eqb, ne_eqb}
use Rattle.counting.specs.Sets.{indicator}
use Rattle.counting.specs.Beside.{beside}
use Rattle.counting.specs.Blocks.{beside_low, beside_high}
use Rattle.mixed.specs.MixedForm.{form_entry}

pub width_positive : (m n k : ℕ) → k < m * (m + n) → 0 < m + n
width_positive m n k l = wide (m + n) l
  where
    wide : (v : ℕ) → k < m * v → 0 < v
    wide zero l = absurd (omega (arith, mul-zero m))
    wide (suc v) l = omega arith

module _ (m n : ℕ) (cs : List ℕ) (k : ℕ) where
  entry_front : k % (m + n) < m → form_entry m n cs k ≡ indicator (eqb (k / (m + n)) (k % (m + n)))
  unfolding form_entry
  entry_front l = beside_low m (λ j. indicator (eqb (k / (m + n)) j)) (λ x. get_or cs (k / (m + n) * n + x) 0) (k % (m + n)) l

  pub entry_unit : k % (m + n) < m → k / (m + n) ≡ k % (m + n) → form_entry m n cs k ≡ 1
  unfolding indicator
  entry_unit l e = entry_front l ∙ ap indicator (eq-eqb _ _ e)

  pub entry_other : k % (m + n) < m → k / (m + n) ≢ k % (m + n) → form_entry m n cs k ≡ 0
  unfolding indicator
  entry_other l e = entry_front l ∙ ap indicator (ne_eqb _ _ e)

  pub entry_constant : m ≤ k % (m + n) → form_entry m n cs k ≡ get_or cs (k / (m + n) * n + (k % (m + n) - m)) 0
  unfolding form_entry
  entry_constant h =
      let at : k % (m + n) ≡ m + (k % (m + n) - m) = omega arith in
      ap (λ (j : ℕ). beside m (λ j. indicator (eqb (k / (m + n)) j)) (λ x. get_or cs (k / (m + n) * n + x) 0) j) at
      ∙ beside_high m (λ j. indicator (eqb (k / (m + n)) j)) (λ x. get_or cs (k / (m + n) * n + x) 0) (k % (m + n) - m)

  -- the constant lies in the area
  pub constant_inside : k < m * (m + n) → m ≤ k % (m + n) → k / (m + n) * n + (k % (m + n) - m) < m * n
  constant_inside l h =
      let w = width_positive m n k l in
      let x : k % (m + n) < m + n = mod-lt k w in
      let i : k / (m + n) < m = (div-lt_iff_lt-mul {k = m + n} {x = k} {y = m} w).1 l in
      let g : (k / (m + n) + 1) * n ≤ m * n = mul-le-mul {n₂ = m} {m₂ = n} (omega arith) (omega arith) in
      omega arith

-- Sums of numbers, and independence modulo p in plain numbers. Definitions only.
use Rattle.std.specs.Prelude.{ℕ, zero, suc, ◌+◌, ◌*◌, ◌%◌, ◌<◌, ◌≡◌, ◌≢◌, true, List, get_or}
use Rattle.counting.specs.Sets.{Set}

-- f 0 + .. + f (n - 1)
unfoldable pub total : ℕ → (ℕ → ℕ) → ℕ
total zero f = 0
total (suc n) f = total n f + f n

-- The constant columns in S are independent modulo p: whole numbers c, one for each column, that are 0 modulo p at the columns outside S and for which
-- in each constant row the sum of constant times number is 0 modulo p, are all 0 modulo p.
pub record OnlyZero (p n a : ℕ) (cs : List ℕ) (S : Set) : Type 0 where
  pub all_zero : (c : ℕ → ℕ) → ((j : ℕ) → j < n → S j ≢ true → c j % p ≡ 0)
      → ((i : ℕ) → i < a → total n (λ j. get_or cs (i * n + j) 0 * c j) % p ≡ 0)
      → (j : ℕ) → j < n → c j % p ≡ 0

-- `largest` is the maximum of F f, `some` is "there is an f with P f", `every` is "all f have P f", where f runs over all functions that choose for each
-- column below n one of finitely many things (a seat, or in and out of a set): finite, so that they compute. Rank, placed set and short set are made of
-- these. Definitions only: that they are maximum and quantifiers is proved in `ChoiceLaws` (`largest_le`, `largest_at`, `some_iff`, `every_iff`).
use Rattle.std.specs.Prelude.{ℕ, zero, suc, max, ◌<◌, Bool, true, false, not}
use Rattle.std.proofs.Math.Bool.{decide}
use Rattle.std.proofs.Math.Decide.{dec_lt}
use Rattle.counting.specs.Sets.{Set, ◌∈◌, indicator, set}

-- the largest of g 0 .. g m
unfoldable pub greatest : (ℕ → ℕ) → ℕ → ℕ
greatest g zero = g 0
greatest g (suc m) = max (greatest g m) (g (suc m))

-- column x has the choices at 0 .. at (last x); from column n on every function is at 0
module _ {A : Type 0} (at : ℕ → A) (last : ℕ → ℕ) where
  -- the largest F f
  unfoldable pub largest : ℕ → ((ℕ → A) → ℕ) → ℕ
  largest zero F = F (λ x. at 0)
  largest (suc n) F = greatest (λ i. largest n (λ f. F (set f n (at i)))) (last n)

  -- some f passes the test P
  unfoldable pub some : ℕ → ((ℕ → A) → Bool) → Bool
  some n P = decide (dec_lt 0 (largest n (λ f. indicator (P f))))

  -- every f passes the test P
  unfoldable pub every : ℕ → ((ℕ → A) → Bool) → Bool
  every n P = not (some n (λ f. not (P f)))

-- the two choices of a column in a set: out, and in
unfoldable pub membership : ℕ → Bool
membership zero = false
membership (suc i) = true

-- the sets of columns below n that are in U
module _ (n : ℕ) (U : Set) where
  -- S is one of them
  abbrev pub Part : Set → Type 0
  Part S = (x : ℕ) → x ∈ S → (x < n) × (x ∈ U)

  -- the largest F S over these sets S
  unfoldable pub largest_part : (Set → ℕ) → ℕ
  largest_part F = largest membership (λ x. indicator (U x)) n F

  -- every one of these sets passes the test P
  unfoldable pub every_part : (Set → Bool) → Bool
  every_part P = every membership (λ x. indicator (U x)) n P

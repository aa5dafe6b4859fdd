-- Sums of numbers, compared by counting at every threshold. Assumes nothing.
use Rattle.std.specs.Prelude.{◌*◌, ◌+◌, ◌<◌, min, suc, zero, ℕ, ◌≤◌, ◌↔◌, refl, ◌≡◌}
use Rattle.std.proofs.Math.Bool.{decide, decide_iff}
use Rattle.std.proofs.Common.{ap, arith}
use Rattle.std.proofs.Math.Decide.{dec_lt, ℕ_discrete}
use Rattle.counting.specs.Bools.{not_true, true?}
use Rattle.counting.specs.Counts.{#-∁}
use Rattle.counting.specs.Sets.{#, Set, indicator, ∁, ◌∈◌}
use Rattle.rank.specs.Totals.{total}
use Rattle.degrees.specs.Levels.{raised}

total_mono : (n : ℕ) (f g : ℕ → ℕ) → ((x : ℕ) → x < n → f x ≤ g x) → total n f ≤ total n g
unfolding total
total_mono zero f g h = omega arith
total_mono (suc n) f g h = omega (arith, h n (omega arith), total_mono n f g (λ x l. h x (omega arith)))

pub total_ext : (n : ℕ) (f g : ℕ → ℕ) → ((x : ℕ) → x < n → f x ≡ g x) → total n f ≡ total n g
unfolding total
total_ext zero f g h = refl
total_ext (suc n) f g h = omega (arith, h n (omega arith), total_ext n f g (λ x l. h x (omega arith)))

pub total_add : (n : ℕ) (f g : ℕ → ℕ) → total n (λ x. f x + g x) ≡ total n f + total n g
unfolding total
total_add zero f g = refl
total_add (suc n) f g = omega (arith, total_add n f g)

-- s more on S
pub total_raise : (n s : ℕ) (f : ℕ → ℕ) (S : Set) → total n (raised s f S) ≡ total n f + s * # n S
unfolding total #
total_raise zero s f S = omega arith
total_raise (suc n) s f S = omega (arith, total_raise n s f S, distribute (indicator (S n)) (# n S))
  where
    distribute : (u v : ℕ) → s * (u + v) ≡ s * u + s * v
    distribute u v = omega arith

pub total_zero : (n : ℕ) → total n (λ x. 0) ≡ 0
unfolding total
total_zero zero = refl
total_zero (suc n) = omega (arith, total_zero n)

-- numbers up to c
pub total_below : (n c : ℕ) (f : ℕ → ℕ) → ((x : ℕ) → x < n → f x ≤ c) → total n f ≤ c * n
unfolding total
total_below zero c f h = omega arith
total_below (suc n) c f h = omega (arith, h n (omega arith), total_below n c f (λ x l. h x (omega arith)))

total_at : (n : ℕ) (f : ℕ → ℕ) (x : ℕ) → x < n → f x ≤ total n f
unfolding total
total_at zero f x l = absurd (omega arith)
total_at (suc n) f x l = elim (ℕ_discrete x n) [ yes e ↦ rw e (omega arith) | no ne ↦ omega (arith, total_at n f x (omega arith)) ]

-- where f exceeds t
pub above : ℕ → (ℕ → ℕ) → Set
above t f x = decide (dec_lt t (f x))

pub above_iff : (t : ℕ) (f : ℕ → ℕ) (x : ℕ) → (x ∈ above t f) ↔ (t < f x)
unfolding above
above_iff t f x = decide_iff (dec_lt t (f x))

indicator_above : (t : ℕ) (f : ℕ → ℕ) (x : ℕ) → min (f x) (suc t) ≡ min (f x) t + indicator (above t f x)
unfolding indicator
indicator_above t f x = elim (true? (above t f x)) [
  | yes e ↦ omega (arith, ap indicator e, (above_iff t f x).0 e)
  | no ne ↦ elim (dec_lt t (f x)) [ yes l ↦ absurd (ne ((above_iff t f x).1 l)) | no nl ↦ omega (arith, ap indicator (not_true (above t f x) ne)) ]
]

capped : (n t : ℕ) (f : ℕ → ℕ) → total n (λ x. min (f x) (suc t)) ≡ total n (λ x. min (f x) t) + # n (above t f)
unfolding total #
capped zero t f = refl
capped (suc n) t f = omega (arith, indicator_above t f n, capped n t f)

capped_none : (n : ℕ) (f : ℕ → ℕ) → total n (λ x. min (f x) 0) ≡ 0
unfolding total
capped_none zero f = refl
capped_none (suc n) f = omega (arith, capped_none n f)

-- if at every threshold f has no more above it than g, the sum of f is no more than that of g
module _ (n m : ℕ) (f g : ℕ → ℕ) where
  module _ (h : (t : ℕ) → # n (above t f) ≤ # m (above t g)) where
    capped_le : (t : ℕ) → total n (λ x. min (f x) t) ≤ total m (λ x. min (g x) t)
    capped_le zero = omega (arith, capped_none n f)
    capped_le (suc t) = omega (arith, capped n t f, capped m t g, h t, capped_le t)

    pub threshold : total n f ≤ total m g
    threshold = omega (
      arith,
      total_mono n f (λ x. min (f x) (total n f)) (λ x l. omega (arith, total_at n f x l)),
      capped_le (total n f),
      total_mono m (λ x. min (g x) (total n f)) g (λ x l. omega arith),
    )

  -- the same by what is not above, for as many on both sides
  pub threshold_below : n ≡ m → ((t : ℕ) → # m (∁ (above t g)) ≤ # n (∁ (above t f))) → total n f ≤ total m g
  threshold_below e h = threshold (λ t. omega (arith, #-∁ n (above t f), #-∁ m (above t g), h t))

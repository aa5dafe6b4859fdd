-- The laws of two blocks side by side. Assumes nothing.
use Rattle.std.specs.Prelude.{ℕ, zero, suc, ◌+◌, ◌-◌, ◌<◌, ◌≡◌, refl}
use Rattle.std.proofs.Common.{ap, arith}
use Rattle.std.proofs.Math.Decide.{dec_lt}
use Rattle.counting.specs.Sets.{Set, #, choose}
use Rattle.counting.specs.Beside.{beside}

-- the first a and the next b
pub #-plus : (a b : ℕ) (S : Set) → # (a + b) S ≡ # a S + # b (λ r. S (a + r))
unfolding #
#-plus a zero S = let e : a + 0 ≡ a = omega arith in rw e (omega arith)
#-plus a (suc b) S = let e : a + suc b ≡ suc (a + b) = omega arith in rw e (omega (arith, #-plus a b S))

pub beside_low : {A : Type 0} (m : ℕ) (f g : ℕ → A) (j : ℕ) → j < m → beside m f g j ≡ f j
unfolding beside choose
beside_low m f g j l = elim (dec_lt j m) as (λ d. choose d (f j) (g (j - m)) ≡ f j) [ yes k ↦ refl | no nk ↦ absurd (nk l) ]

pub beside_high : {A : Type 0} (m : ℕ) (f g : ℕ → A) (x : ℕ) → beside m f g (m + x) ≡ g x
unfolding beside choose
beside_high m f g x = elim (dec_lt (m + x) m) as (λ d. choose d (f (m + x)) (g (m + x - m)) ≡ g x) [
  | yes k ↦ absurd (omega arith)
  | no nk ↦ let e : m + x - m ≡ x = omega arith in ap g e
]

-- so there are two cases
pub low_or_high : {A : Type 0} (m j : ℕ) → (j < m → A) → ((x : ℕ) → j ≡ m + x → A) → A
low_or_high m j f g = elim (dec_lt j m) [ yes l ↦ f l | no nl ↦ g (j - m) (omega arith) ]

-- Matrices with the same kernel have the same independent columns; independent columns are at most as many as the rows that touch them. Assumes nothing.
use Rattle.std.specs.Prelude.{ℕ, ◌≤◌, Bool, true, false, ◌≢◌, ◌↔◌, ◌≡◌}
use Rattle.std.proofs.Math.Bool.{decide, decide_iff}
use Rattle.std.proofs.Common.{true≢false, sym, ◌∙◌, arith}
use mathlib.Core.Logic.Dec
use Rattle.std.proofs.Math.Logic.{by_cases}
use Rattle.std.proofs.Math.Decide.{dec_le}
use Rattle.residue.specs.Fields.{Field}
use Rattle.counting.specs.Sets.{#, ◌⊆◌, touching}
use Rattle.counting.specs.Counts.{touching_iff}
use Rattle.rank.specs.Linear.Independence.{Indep, InKernel}
use Rattle.rank.specs.Linear.Systems.{Touches, solve, touches?, untouched}

module _ (K : Field) (a n : ℕ) where
  open K use {F}

  -- P and Q have one kernel
  pub record Same (P Q : ℕ → ℕ → F) : Type 0 where
    pub kernel : (c : ℕ → F) → InKernel K a n P c ↔ InKernel K a n Q c

-- row h of P has an entry in column x that is not zero
unfoldable pub hits : (K : Field) → (ℕ → ℕ → K.F) → ℕ → ℕ → Bool
hits K P h x = decide (Dec.not (K.decide (P h x) K.𝟘))

pub hits_iff : (K : Field) (P : ℕ → ℕ → K.F) (h x : ℕ) → (hits K P h x ≡ true) ↔ (P h x ≢ K.𝟘)
unfolding hits
hits_iff K P h x = decide_iff (Dec.not (K.decide (P h x) K.𝟘))

pub hits_not : (K : Field) (P : ℕ → ℕ → K.F) (h x : ℕ) → hits K P h x ≡ false → P h x ≡ K.𝟘
hits_not K P h x e = by_cases (K.decide (P h x) K.𝟘) (λ z. z) (λ nz. absurd (true≢false (sym ((hits_iff K P h x).1 nz) ∙ e)))

-- the rows of P that touch T
module _ (K : Field) (n : ℕ) (P : ℕ → ℕ → K.F) (T : ℕ → Bool) where
  touching_yes : (h : ℕ) → Touches K n T (P h) → touching n (hits K P) T h ≡ true
  touching_yes h w = (touching_iff n (hits K P) T h).1 (w.0, w.1, (w.2.0, (hits_iff K P h w.0).1 w.2.1))

-- row h scaled to have 1 in column x, and that column cleared in the other rows
module _ {K : Field} {a n : ℕ} where
  open K use {F}

  pub same_refl : {P : ℕ → ℕ → K.F} → Same K a n P P
  same_refl = record { kernel = λ c. (λ z. z, λ z. z) }

  pub same_sym : {P Q : ℕ → ℕ → K.F} → Same K a n P Q → Same K a n Q P
  same_sym e = record { kernel = λ c. ((e.kernel c).1, (e.kernel c).0) }

  pub same_trans : {P Q R : ℕ → ℕ → K.F} → Same K a n P Q → Same K a n Q R → Same K a n P R
  same_trans e f = record { kernel = λ c. (λ z. (f.kernel c).0 ((e.kernel c).0 z), λ z. (e.kernel c).1 ((f.kernel c).1 z)) }

  pub same_indep : {P Q : ℕ → ℕ → F} {S : ℕ → Bool} → Same K a n P Q → Indep K a n P S → Indep K a n Q S
  same_indep e i = record { only_zero = λ c s k. i.only_zero c s ((e.kernel c).1 k) }

  pub indep_sub : {P : ℕ → ℕ → F} {S T : ℕ → Bool} → S ⊆ T → Indep K a n P T → Indep K a n P S
  indep_sub e i = record { only_zero = λ c s. i.only_zero c (λ j nt. s j (λ m. nt (e j m))) }

  -- no more independent columns in T than rows that touch T
  pub indep_count : {P : ℕ → ℕ → F} {S T : ℕ → Bool} → Indep K a n P S → S ⊆ T → # n S ≤ # a (touching n (hits K P) T)
  indep_count {P} {S} {T} ind e = by_cases (dec_le (# n S) (# a (touching n (hits K P) T))) (λ l. l) (λ nl.
      let s = solve K n (touching n (hits K P) T) a P S (omega arith) in absurd (s.some.2 (ind.only_zero s.c s.inside
      (λ i l. by_cases (touches? K n T (P i))
      (λ y. s.solves i l (touching_yes K n P T i y))
      (λ ny. untouched K n T (P i) s.c ny (λ j nt. s.inside j (λ m. nt (e j m)))))
      s.some.0 s.some.1)))

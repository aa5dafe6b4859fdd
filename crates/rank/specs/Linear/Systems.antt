-- Fewer equations than unknowns: a homogeneous system has a solution that is not zero. Assumes nothing.
use Prim.Native.Nat.{ℕ, zero, suc, ◌<◌}
use Rattle.std.specs.Prelude.{Bool, true, ◌≢◌, ◌≡◌}
use Rattle.std.proofs.Math.Bool.{false, Bool-discrete}
use Rattle.std.proofs.lemmas.Bool.{false≢true}
use mathlib.Core.Logic.Dec
use Rattle.std.proofs.Math.Logic.{by_cases}
use Rattle.std.proofs.Common.{ap, ◌∙◌, arith}
use Rattle.std.proofs.Math.Decide.{ℕ_discrete}
use Rattle.residue.specs.Fields.{Field, ring, mul_zero, zero_mul, mul_neg, one_mul}
use Rattle.counting.specs.Sets.{#, Some, indicator, set}
use Rattle.counting.specs.Counts.{#-pick, #-⊖, set_other, set_same, some?}
use Rattle.rank.specs.Linear.Independence.{In, dot}
use Rattle.rank.specs.Linear.Sums.{dot_plus, dot_set, dot_zero}

module _ (K : Field) (n : ℕ) where
  open K use {F, 𝟘, 𝟙, ◌+◌, ◌·◌, neg, inv}

  -- the row a has an entry in S that is not zero
  abbrev pub Touches : (ℕ → Bool) → (ℕ → F) → Type 0
  Touches S a = Some n (λ j. (S j ≡ true) × (a j ≢ 𝟘))

  pub touches? : (S : ℕ → Bool) (a : ℕ → F) → Dec (Touches S a)
  touches? S a = some? n _ (λ j. Dec.and (Bool-discrete (S j) true) (Dec.not (K.decide (a j) 𝟘)))

  pub untouched : (S : ℕ → Bool) (a c : ℕ → F) → ¬ Touches S a → In K S c → dot K n a c ≡ 𝟘
  untouched S a c none h = dot_zero K n a c (λ j l. by_cases (Bool-discrete (S j) true)
      (λ s. by_cases (K.decide (a j) 𝟘) (λ e. rw e (zero_mul K (c j))) (λ ne. absurd (none ((j, l, (s, ne))))))
      (λ ns. rw (h j ns) (mul_zero K (a j))))

  -- coefficients in S, not all zero, that the rows i < N of A with i in R kill
  pub record Solution (R : ℕ → Bool) (N : ℕ) (A : ℕ → ℕ → F) (S : ℕ → Bool) : Type 0 where
    pub c : ℕ → F
    pub inside : In K S c
    pub some : Some n (λ j. c j ≢ 𝟘)
    pub solves : (i : ℕ) → i < N → R i ≡ true → dot K n (A i) c ≡ 𝟘

  module _ (R : ℕ → Bool) where
    -- a solution that one more row in-kernel, if that row is in R
    more : (N : ℕ) (A : ℕ → ℕ → F) (S : ℕ → Bool) (s : Solution R N A S) → (R N ≡ true → dot K n (A N) s.c ≡ 𝟘) → Solution R (suc N) A S
    more N A S s h = record {
      c = s.c;
      inside = s.inside;
      some = s.some;
      solves = λ i l r. by_cases (ℕ_discrete i N) (λ e. rw e (h (rw e at r))) (λ ne. s.solves i (omega arith) r);
    }

    -- the rows with their entries in column j cleared by row N
    clear : (ℕ → ℕ → F) → ℕ → ℕ → ℕ → ℕ → F
    clear A N j i k = A i k + neg (A i j · inv (A N j)) · A N k

    turn : (x y z : F) → x · neg (y · z) ≡ neg (x · y) · z
    turn x y z = simp ring

    meet : (p q d : F) → p · q ≡ 𝟙 → d + p · neg (q · d) ≡ 𝟘
    meet p q d h = cc (mul_neg K p (q · d), K.mul_assoc p q d, one_mul K d, K.add_neg d)

    back : (N : ℕ) (A : ℕ → ℕ → F) (S : ℕ → Bool) (j : ℕ) → j < n → S j ≡ true → A N j ≢ 𝟘
        → Solution R N (clear A N j) (set S j false) → Solution R (suc N) A S
    unfolding clear
    back N A S j l e nz s =
        let z : s.c j ≡ 𝟘 = s.inside j (rw set_same false≢true) in
        let q : F = inv (A N j) in
        let v : F = neg (q · dot K n (A N) s.c) in record {
          c = set s.c j v;
          inside = λ k f. by_cases (ℕ_discrete k j) (λ d. absurd (f (rw d e)))
              (λ nd. set_other s.c j v k nd ∙ s.inside k (rw (set_other S j false k) f));
          some = (
            s.some.0,
            s.some.1,
            rw (set_other s.c j v s.some.0 (λ d. s.some.2 (ap s.c d ∙ z))) s.some.2,
          );
          solves = λ i m r. dot_set K n (A i) s.c j v l z ∙ by_cases (ℕ_discrete i N)
              (λ d. rw d (meet (A N j) q _ (K.mul_inv _ nz)))
              (λ nd. rw (turn, ← dot_plus K n (A i) _ (A N) s.c) (s.solves i (omega arith) r));
        }

    pub solve : (N : ℕ) (A : ℕ → ℕ → F) (S : ℕ → Bool) → # N R < # n S → Solution R N A S
    unfolding # indicator
    solve zero A S h = let a = #-pick n S (omega arith) in record {
      c = set (λ j. 𝟘) a.0 𝟙;
      inside = λ j f. set_other _ _ _ j (λ d. f (ap S d ∙ a.2));
      some = (a.0, a.1, rw set_same K.one_ne);
      solves = λ i l r. absurd (omega arith);
    }
    solve (suc N) A S h = by_cases (Bool-discrete (R N) true)
        (λ r. by_cases (touches? S (A N))
        (λ a. back N A S a.0 a.1 a.2.0 a.2.1
        (solve N _ _ (omega (arith, rw r at h, #-⊖ n S a.0 a.1 a.2.0))))
        (λ na. let s = solve N A S (omega arith) in more N A S s (λ _. untouched S (A N) s.c na s.inside)))
        (λ nr. more N A S (solve N A S (omega arith)) (λ r. absurd (nr r)))

-- The independence and the verdict of the model of numbers, in plain numbers. Assumes nothing.
use Rattle.std.specs.Prelude.{ℕ, ◌+◌, ◌≡◌, refl, ◌↔◌, true, List}
use Rattle.std.proofs.Common.{ap, subst}
use Rattle.residue.specs.Arithmetic.{Prime}
use Rattle.residue.specs.Primes.{prime→test}
use Rattle.counting.specs.Sets.{Set}
use Rattle.counting.specs.Counts.{#-all}
use Rattle.rank.specs.Modulus.{modulus}
use Rattle.rank.specs.ModulusLaws.{modulus_is}
use Rattle.rank.specs.Verdict.{verdict_number}
use Rattle.rank.specs.Layered.Rank.{rank, verdict}
use Rattle.rank.specs.Totals.{OnlyZero}
use Rattle.rank.proofs.IndependentLaws.{independent_iff}
use Rattle.rank.proofs.ListedModelLaws.{numbers, residues_too}
use Rattle.listed_models.specs.ListedModel.{listed_model}

-- the model's test of independence is true of S exactly where the columns in S are independent modulo p
pub independent_reads : (p n a b : ℕ) (cs ws : List ℕ) → Prime p → (S : Set) → ((listed_model p n a b cs ws).indep S ≡ true) ↔ OnlyZero p n a cs S
independent_reads p n a b cs ws prime S =
    subst (λ (k : ℕ). ((listed_model p n a b cs ws).indep S ≡ true) ↔ OnlyZero k n a cs S) (modulus_is p (prime→test p prime)) (
      λ e. numbers (modulus p).0 (modulus p).1 n a cs S ((independent_iff _ _ a n _ S).0 e),
      λ h. (independent_iff _ _ a n _ S).1 (residues_too (modulus p).0 (modulus p).1 n a cs S h),
    )

-- all n columns are offered, so the verdict goes by n
pub verdict_at_n : (p n a b : ℕ) (cs ws : List ℕ) → verdict (listed_model p n a b cs ws) ≡ verdict_number (rank (listed_model p n a b cs ws)) n (a + b)
unfolding verdict
verdict_at_n p n a b cs ws = ap (λ (k : ℕ). verdict_number (rank (listed_model p n a b cs ws)) k (a + b)) (#-all n (λ x. true) (λ x l. refl))

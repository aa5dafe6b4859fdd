-- What the outcome and the multipliers of a column say in plain numbers, wherever they are shown. Assumes nothing.
use Rattle.std.specs.Prelude.{ℕ, ◌+◌, ◌*◌, ◌%◌, ◌≤◌, ◌<◌, ◌≡◌, ◌≢◌, ◌↔◌, List, [], length, get_or}
use Rattle.std.proofs.Common.{sym, ap, ◌∙◌, subst, arith}
use Rattle.std.proofs.Math.Path.{fun_ext}
use Rattle.std.proofs.Math.Decide.{dec_lt}
use Rattle.std.proofs.Math.ListN.{get_or-eq_default}
use Rattle.limits.specs.Limits.{most_columns}
use Rattle.residue.specs.Arithmetic.{Prime}
use Rattle.residue.specs.Primes.{prime→test}
use Rattle.residue.specs.Residues.{residues, res, num_of, num_of_res, res_num_of, res_zero}
use Rattle.counting.specs.Sets.{Set, ◌∈◌}
use Rattle.rank.specs.Modulus.{modulus}
use Rattle.rank.specs.ModulusLaws.{modulus_is}
use Rattle.rank.specs.Linear.Independence.{Indep}
use Rattle.rank.proofs.IndependentLaws.{cut, cut_below, independent_iff}
use Rattle.rank.specs.ListedModel.{constant_at}
use Rattle.rank.specs.Totals.{OnlyZero}
use Rattle.listed_models.specs.ListedModelLaws.{independent_reads}
use Rattle.dependence.specs.Multipliers.{Depends, given}
use Rattle.dependence.specs.PlainNumbers.{SumsTo, plain_multipliers, residue_multipliers}
use Rattle.dependence.proofs.NumberLaws.{given_below, given_not_held, multiplier_given}
use Rattle.dependence.specs.ListingLaws.{listing_at, listing_length}
use Rattle.dependence.proofs.Theorems as Theory
use Rattle.exchange.specs.DependenceCall.{ListedDependenceShown}

-- these numbers say how column x depends on the columns in H, all of them below n, modulo the prime p
pub record Says (p n a : ℕ) (cs : List ℕ) (H : Set) (x the-outcome : ℕ) (ms : List ℕ) : Type 0 where
  pub prime : Prime p
  pub n_most : n ≤ most_columns
  pub x_below : x < n
  pub below : (j : ℕ) → j ∈ H → j < n
  pub answer : ListedDependenceShown p n a cs H x the-outcome ms

module _ {p n a : ℕ} {cs : List ℕ} {H : Set} {x the-outcome : ℕ} {ms : List ℕ} (s : Says p n a cs H x the-outcome ms) where
  abbrev q : ℕ
  q = (modulus p).0

  abbrev P : Prime q
  P = (modulus p).1

  abbrev Q : ℕ → ℕ → (residues q P).F
  Q = constant_at q P n cs

  q_is : q ≡ p
  q_is = modulus_is p (prime→test p s.prime)

  -- each number is the multiplier that is given
  at : (j : ℕ) → get_or ms j 0 ≡ given q P a n Q H x j
  at j = elim (dec_lt j most_columns) [
    | yes l ↦ ap (λ (v : List ℕ). get_or v j 0) s.answer.multipliers_are ∙ listing_at most_columns (given q P a n Q H x) j l
    | no nl ↦ get_or-eq_default ms 0 (omega (arith, ap (λ (v : List ℕ). length v) s.answer.multipliers_are, listing_length most_columns (given q P a n Q H x)))
        ∙ sym (given_not_held q P a n Q H x j (λ e. omega (arith, s.below j e, s.n_most)))
  ]

  pub number_below_p : (j : ℕ) → get_or ms j 0 < p
  number_below_p j = omega (arith, at j, q_is, given_below q P a n Q H x j)

  pub number_not_held : (j : ℕ) → (j ∈ H → ⊥) → get_or ms j 0 ≡ 0
  number_not_held j nj = at j ∙ given_not_held q P a n Q H x j nj

  -- independence in plain numbers
  plain_independent : Indep (residues q P) a n Q H ↔ OnlyZero p n a cs H
  plain_independent =
      let w = independent_reads p n a 0 cs [] s.prime H in
      ((λ i. w.0 ((independent_iff q P a n Q H).1 i)), λ z. (independent_iff q P a n Q H).0 (w.1 z))

  pub says_dependent : (the-outcome ≡ 2) ↔ (OnlyZero p n a cs H → ⊥)
  says_dependent = (
    λ e z. (Theory.outcome_2 q P a n Q H x).0 (sym s.answer.outcome_is ∙ e) (plain_independent.1 z),
    λ no-z. s.answer.outcome_is ∙ (Theory.outcome_2 q P a n Q H x).1 (λ i. no-z (plain_independent.0 i)),
  )

  -- numbers modulo p as residues modulo q
  as_residues : (c : ℕ → ℕ) → SumsTo p n a cs H x c → Depends (residues q P) a n Q H x (cut q P n (λ j. res q P (c j)))
  as_residues c t = residue_multipliers q P n a cs H x c (subst (λ (k : ℕ). SumsTo k n a cs H x c) (sym q_is) t)

  -- and back
  as_numbers : (c : ℕ → (residues q P).F) → Depends (residues q P) a n Q H x c → SumsTo p n a cs H x (λ j. num_of q P (c j))
  as_numbers c m =
      subst (λ (k : ℕ). SumsTo k n a cs H x (λ j. num_of q P (c j))) q_is
      (plain_multipliers q P n a cs H x (λ j. num_of q P (c j)) (subst (Depends (residues q P) a n Q H x) (sym (fun_ext (λ j. res_num_of q P (c j)))) m))

  pub says_independent : (the-outcome ≡ 0) ↔ (OnlyZero p n a cs H × ((c : ℕ → ℕ) → SumsTo p n a cs H x c → ⊥))
  says_independent = (
    λ e. let w = (Theory.outcome_0 q P a n Q H x).0 (sym s.answer.outcome_is ∙ e) in (plain_independent.0 w.0, λ c t. w.1 _ (as_residues c t)),
    λ w. s.answer.outcome_is ∙ (Theory.outcome_0 q P a n Q H x).1 (plain_independent.1 w.0, λ c m. w.1 _ (as_numbers c m)),
  )

  pub says_depends : (the-outcome ≡ 1) ↔ (OnlyZero p n a cs H × ((c : ℕ → ℕ) × SumsTo p n a cs H x c))
  says_depends = (
    λ e. let w = (Theory.outcome_1 q P a n Q H x).0 (sym s.answer.outcome_is ∙ e) in (plain_independent.0 w.0, (_, as_numbers w.1.0 w.1.1)),
    λ w. s.answer.outcome_is ∙ (Theory.outcome_1 q P a n Q H x).1 (plain_independent.1 w.0, (_, as_residues w.1.0 w.1.1)),
  )

  pub none_given_otherwise : the-outcome ≢ 1 → (j : ℕ) → get_or ms j 0 ≡ 0
  none_given_otherwise ne j = at j ∙ Theory.given_with_1_alone q P a n Q H x (λ e. ne (s.answer.outcome_is ∙ e)) j

  module _ (e : the-outcome ≡ 1) where
    depends : Indep (residues q P) a n Q H × ((c : ℕ → (residues q P).F) × Depends (residues q P) a n Q H x c)
    depends = (Theory.outcome_1 q P a n Q H x).0 (sym s.answer.outcome_is ∙ e)

    pub numbers_sum : SumsTo p n a cs H x (λ j. get_or ms j 0)
    numbers_sum =
        let m = Theory.multipliers_sum q P a n Q H x depends.0 ((Theory.depends_reads q P a n Q H x).1 depends.1) in
        let f = fun_ext (λ j. at j ∙ multiplier_given q P a n Q H x ((independent_iff q P a n Q H).1 depends.0) j) in
        subst (λ (k : ℕ). SumsTo k n a cs H x (λ j. get_or ms j 0)) q_is
        (plain_multipliers q P n a cs H x (λ j. get_or ms j 0) (subst (λ (g : ℕ → ℕ). Depends (residues q P) a n Q H x (λ j. res q P (g j))) (sym f) m))

    pub numbers_only : (c : ℕ → ℕ) → SumsTo p n a cs H x c → (j : ℕ) → j < n → get_or ms j 0 ≡ c j % p
    numbers_only c t j l = at j ∙ multiplier_given q P a n Q H x ((independent_iff q P a n Q H).1 depends.0) j
        ∙ Theory.multipliers_are q P a n Q H x depends.0 _ (as_residues c t) j l ∙ ap (num_of q P) (cut_below q P n (λ k. res q P (c k)) j l) ∙ num_of_res q P (c j) ∙ ap (λ (k : ℕ). c j % k) q_is

  -- the held columns are independent
  module _ (i : OnlyZero p n a cs H) where
    pub held_itself : x ∈ H → (the-outcome ≡ 1) × (get_or ms x 0 ≡ 1) × ((j : ℕ) → j < n → j ≢ x → get_or ms j 0 ≡ 0)
    held_itself e =
        let w = Theory.held_column q P a n Q H x (plain_independent.1 i) s.x_below e in
        (s.answer.outcome_is ∙ w.0, at x ∙ w.1, λ j l ne. at j ∙ w.2 j l ne)

    pub zero_by_nothing : ((k : ℕ) → k < a → get_or cs (k * n + x) 0 ≡ 0) → (the-outcome ≡ 1) × ((j : ℕ) → j < n → get_or ms j 0 ≡ 0)
    zero_by_nothing z =
        let w = Theory.zero_column q P a n Q H x (plain_independent.1 i) (λ k l. ap (res q P) (z k l) ∙ res_zero q P) in
        (s.answer.outcome_is ∙ w.0, λ j l. at j ∙ w.1 j l)

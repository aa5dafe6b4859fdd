-- What the promise of the call about multipliers rules out, on models of two constant rows modulo 3, and its order of refusals. Assumes nothing.
use Rattle.std.specs.Prelude.{ℕ, ◌<◌, ◌≡◌, refl, ◌≢◌, get_or, replicate}
use Rattle.std.proofs.Common.{ap, ◌∙◌, arith}
use Rattle.std.proofs.Math.Option.{Option, none, some}
use mathlib.Core.List.{List, [], ◌∷◌, flatten}
use Rattle.residue.specs.Residues.{num_of}
use Rattle.limits.specs.Limits.{most_columns}
use Rattle.counting.specs.Sets.{#}
use Rattle.columns.specs.Columns.{members}
use Rattle.columns.specs.ColumnSets.{whole}
use Rattle.columns.specs.declared.ColumnSet.{ColumnSet}
use Rattle.rank.specs.Modulus.{modulus}
use Rattle.rank.specs.ListedModel.{constant_at}
use Rattle.dependence.specs.Multipliers.{sums_to, depends, multiplier, outcome, given}
use Rattle.dependence.specs.ListingLaws.{listing_at}
use Rattle.format.specs.Numbers.{once, stands_in, parameter_count, picked, numbers_in}
use Rattle.format.specs.Refusals.{◌then◌, first_refusal, column_test, model_tests}
use Rattle.multipliers.specs.Answers.{column_question, MultipliersCall}
use Rattle.multipliers.specs.Shown.{Multipliers}
use Rattle.refutations.specs.Computing.{computing}
use Rattle.refutations.specs.Accepted.{judging}

-- all that has to be opened to run the definitions,
unfoldable run : ℕ
unfolding computing num_of whole sums_to depends multiplier outcome given
run = 0

-- and to judge a call
unfoldable asking : ℕ
unfolding judging whole column_test
asking = 0

-- the set of columns 0 and 1
abbrev both : ColumnSet
both = record { low = 3; high = 0 }

-- the number of a call about column x of two constant rows of three columns, with the columns 0 and 1 held
abbrev due : List ℕ → ℕ → ℕ
due cs x = first_refusal (model_tests 3 3 2 0 cs [] none then column_question 3 (whole both) x)

-- what is promised of that call,
abbrev Says : List ℕ → ℕ → Multipliers → Type 0
Says cs x = MultipliersCall 3 3 2 0 cs [] none both x

-- the outcome that it is to have, and the multipliers
abbrev outcome_of : List ℕ → ℕ → ℕ
outcome_of cs x = outcome (modulus 3).0 (modulus 3).1 2 3 (constant_at (modulus 3).0 (modulus 3).1 3 cs) (members (whole both)) x

abbrev given_of : List ℕ → ℕ → ℕ → ℕ
given_of cs x = given (modulus 3).0 (modulus 3).1 2 3 (constant_at (modulus 3).0 (modulus 3).1 3 cs) (members (whole both)) x

-- a multiplier that is shown is the one that is given
shown : (cs : List ℕ) (x : ℕ) (r : Multipliers) → Says cs x r → due cs x ≡ 0 → (j : ℕ) → j < most_columns → get_or r.multipliers j 0 ≡ given_of cs x j
shown cs x r s ok j l = ap (λ (v : List ℕ). get_or v j 0) (s.if_accepted ok).multipliers_are ∙ listing_at most_columns (given_of cs x) j l

-- column 2 is twice the first unit column and once the second
twice_asked : due (1 ∷ 0 ∷ 2 ∷ 0 ∷ 1 ∷ 1 ∷ []) 2 ≡ 0
unfolding asking
twice_asked = refl

twice : given_of (1 ∷ 0 ∷ 2 ∷ 0 ∷ 1 ∷ 1 ∷ []) 2 0 ≡ 2
unfolding run
twice = refl

twice_depends : outcome_of (1 ∷ 0 ∷ 2 ∷ 0 ∷ 1 ∷ 1 ∷ []) 2 ≡ 1
unfolding run
twice_depends = refl

-- the sign of the multiplier is turned: it is given as minus two, which is 1
pub sign_turned : (r : Multipliers) → Says (1 ∷ 0 ∷ 2 ∷ 0 ∷ 1 ∷ 1 ∷ []) 2 r → get_or r.multipliers 0 0 ≡ 1 → ⊥
sign_turned r s e = omega (arith, shown (1 ∷ 0 ∷ 2 ∷ 0 ∷ 1 ∷ 1 ∷ []) 2 r s twice_asked 0 (omega arith), twice)

-- it is said not to depend, or the held columns are called dependent
pub depending_called_independent : (r : Multipliers) → Says (1 ∷ 0 ∷ 2 ∷ 0 ∷ 1 ∷ 1 ∷ []) 2 r → r.outcome ≢ 1 → ⊥
depending_called_independent r s ne = ne ((s.if_accepted twice_asked).outcome_is ∙ twice_depends)

-- the columns 0 and 1 are equal, and column 2 is twice either
equal_asked : due (1 ∷ 1 ∷ 2 ∷ 1 ∷ 1 ∷ 2 ∷ []) 2 ≡ 0
unfolding asking
equal_asked = refl

equal_outcome : outcome_of (1 ∷ 1 ∷ 2 ∷ 1 ∷ 1 ∷ 2 ∷ []) 2 ≡ 2
unfolding run
equal_outcome = refl

equal_given : given_of (1 ∷ 1 ∷ 2 ∷ 1 ∷ 1 ∷ 2 ∷ []) 2 0 ≡ 0
unfolding run
equal_given = refl

-- multipliers are given although the held columns are dependent
pub given_for_dependent_columns : (r : Multipliers) → Says (1 ∷ 1 ∷ 2 ∷ 1 ∷ 1 ∷ 2 ∷ []) 2 r → get_or r.multipliers 0 0 ≡ 2 → ⊥
given_for_dependent_columns r s e = omega (arith, shown (1 ∷ 1 ∷ 2 ∷ 1 ∷ 1 ∷ 2 ∷ []) 2 r s equal_asked 0 (omega arith), equal_given)

-- they pass for independent
pub dependent_columns_pass : (r : Multipliers) → Says (1 ∷ 1 ∷ 2 ∷ 1 ∷ 1 ∷ 2 ∷ []) 2 r → r.outcome ≢ 2 → ⊥
dependent_columns_pass r s ne = ne ((s.if_accepted equal_asked).outcome_is ∙ equal_outcome)

-- column 2 is zero
zero_asked : due (1 ∷ 0 ∷ 0 ∷ 0 ∷ 1 ∷ 0 ∷ []) 2 ≡ 0
unfolding asking
zero_asked = refl

zero_outcome : outcome_of (1 ∷ 0 ∷ 0 ∷ 0 ∷ 1 ∷ 0 ∷ []) 2 ≡ 1
unfolding run
zero_outcome = refl

-- it is said not to depend, since all its multipliers are 0
pub zero_column_called_independent : (r : Multipliers) → Says (1 ∷ 0 ∷ 0 ∷ 0 ∷ 1 ∷ 0 ∷ []) 2 r → r.outcome ≡ 0 → ⊥
zero_column_called_independent r s e = omega (arith, (s.if_accepted zero_asked).outcome_is, zero_outcome)

-- column 1, which is held, has the multiplier 1 for itself
held_asked : due (1 ∷ 0 ∷ 0 ∷ 0 ∷ 1 ∷ 0 ∷ []) 1 ≡ 0
unfolding asking
held_asked = refl

held_given : given_of (1 ∷ 0 ∷ 0 ∷ 0 ∷ 1 ∷ 0 ∷ []) 1 1 ≡ 1
unfolding run
held_given = refl

pub held_column_without_multiplier : (r : Multipliers) → Says (1 ∷ 0 ∷ 0 ∷ 0 ∷ 1 ∷ 0 ∷ []) 1 r → get_or r.multipliers 1 0 ≡ 0 → ⊥
held_column_without_multiplier r s e = omega (arith, shown (1 ∷ 0 ∷ 0 ∷ 0 ∷ 1 ∷ 0 ∷ []) 1 r s held_asked 1 (omega arith), held_given)

-- ---- refusals

-- of one column, column 1 is named, or held
pub named_column_not_refused : (r : Multipliers) → MultipliersCall 3 1 0 0 [] [] none (record { low = 0; high = 0 }) 1 r → r.refusal ≢ 11 → ⊥
unfolding asking
named_column_not_refused r s ne = ne s.is_refusal

pub held_column_not_refused : (r : Multipliers) → MultipliersCall 3 1 0 0 [] [] none (record { low = 2; high = 0 }) 0 r → r.refusal ≢ 11 → ⊥
unfolding asking
held_column_not_refused r s ne = ne s.is_refusal

-- the numbers of the parameters are not judged: both parameters of the row have the number 5
pub numbers_not_judged : (r : Multipliers) → MultipliersCall 3 2 0 1 [] (3 ∷ []) (some (5 ∷ 5 ∷ [])) (record { low = 0; high = 0 }) 0 r → r.refusal ≢ 13 → ⊥
unfolding asking # flatten once stands_in parameter_count picked numbers_in
numbers_not_judged r s ne = ne s.is_refusal

-- 11 is given before 3: p is 4
pub column_before_prime : (r : Multipliers) → MultipliersCall 4 1 0 0 [] [] none (record { low = 2; high = 0 }) 1 r → r.refusal ≡ 11 → ⊥
unfolding asking
column_before_prime r s e = let d : r.refusal ≡ 3 = s.is_refusal in omega arith

-- a refusal has no outcome and no multiplier
pub refused_with_numbers : (p n a b : ℕ) (cs ws : List ℕ) (ns : Option (List ℕ)) (held : ColumnSet) (x : ℕ) (r : Multipliers) → MultipliersCall p n a b cs ws ns held x r → r.refusal ≢ 0 → (r.outcome ≡ 0) × (r.multipliers ≡ replicate most_columns 0)
refused_with_numbers p n a b cs ws ns held x r s ne = let u = s.if_refused (λ z. ne (s.is_refusal ∙ z)) in (u.no_outcome, u.no_multipliers)

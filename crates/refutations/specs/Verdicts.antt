-- Wrong verdicts: what each of these programs says of a small model contradicts the promise. Assumes nothing.
use Rattle.std.specs.Prelude.{◌≡◌, refl, [], ◌∷◌}
use Rattle.std.proofs.Math.Option.{none}
use Rattle.std.proofs.Common.{arith}
use Rattle.rank.specs.Layered.Rank.{verdict}
use Rattle.listed_models.specs.ListedModel.{listed_model}
use Rattle.mixed_models.specs.Mixed.{mixed, mixed_sum, mixed_rank, mixed_verdict, rows_in}
use Rattle.mixed_models.proofs.Starred.Table.{table}
use Rattle.format.specs.Refusals.{refusal, mixed_refusal}
use Rattle.layered.specs.Answers.{LayeredCall}
use Rattle.layered.specs.Shown.{Answer}
use Rattle.mixed.specs.MixedAnswers.{MixedCall}
use Rattle.mixed.specs.Shown.{MixedAnswer}
use Rattle.refutations.specs.Computing.{computing}
use Rattle.refutations.specs.Accepted.{judging, S9_accepted, joined_accepted}

-- ---- layered models

S11_accepted : refusal 1021 1 0 2 [] (1 ∷ 1 ∷ []) none ≡ 0
unfolding judging
S11_accepted = refl

-- surplus is called determined: S11
pub surplus_called_determined : (r : Answer) → LayeredCall 1021 1 0 2 [] (1 ∷ 1 ∷ []) none r → r.verdict ≡ 1 → ⊥
surplus_called_determined r x z = let e = (x.if_accepted S11_accepted).is_verdict in let f = table.s11.is_verdict in omega arith

joined_verdict : verdict (listed_model 2 2 1 2 (1 ∷ 0 ∷ []) (1 ∷ 1 ∷ [])) ≡ 0
unfolding computing
joined_verdict = refl

-- surplus at a rank below n, since rows are more than columns
pub surplus_below_n : (r : Answer) → LayeredCall 2 2 1 2 (1 ∷ 0 ∷ []) (1 ∷ 1 ∷ []) none r → r.verdict ≡ 2 → ⊥
surplus_below_n r x z = let e = (x.if_accepted joined_accepted).is_verdict in let f = joined_verdict in omega arith

-- one column, with a constant and a parameter
twice_accepted : refusal 2 1 1 1 (1 ∷ []) (1 ∷ []) none ≡ 0
unfolding judging
twice_accepted = refl

twice_verdict : verdict (listed_model 2 1 1 1 (1 ∷ []) (1 ∷ [])) ≡ 2
unfolding computing
twice_verdict = refl

-- the constant rows alone are counted: one for one column
pub constant_rows_counted : (r : Answer) → LayeredCall 2 1 1 1 (1 ∷ []) (1 ∷ []) none r → r.verdict ≡ 1 → ⊥
constant_rows_counted r x z = let e = (x.if_accepted twice_accepted).is_verdict in let f = twice_verdict in omega arith

-- ---- mixed models

-- constant rows and parameter rows are counted apart, 2m of them: S9 is called surplus
pub mixed_rows_counted_twice : (r : MixedAnswer) → MixedCall 1021 2 2 2 (1 ∷ 1 ∷ 1 ∷ 1 ∷ []) (1 ∷ 0 ∷ []) none r → r.verdict ≡ 2 → ⊥
mixed_rows_counted_twice r x z = let e = (x.if_accepted S9_accepted).is_verdict in let f = table.s9.is_verdict in omega arith

-- two rows with a constant each, for one column
tall_accepted : mixed_refusal 2 1 2 2 (1 ∷ 1 ∷ []) (0 ∷ 0 ∷ []) none ≡ 0
unfolding judging
tall_accepted = refl

tall_verdict : mixed_verdict (mixed 2 2 1 (1 ∷ 1 ∷ []) (0 ∷ 0 ∷ [])) ≡ 2
unfolding computing rows_in mixed_sum mixed_rank mixed_verdict
tall_verdict = refl

-- a mixed model with more rows than columns is called determined
pub mixed_surplus_called_determined : (r : MixedAnswer) → MixedCall 2 1 2 2 (1 ∷ 1 ∷ []) (0 ∷ 0 ∷ []) none r → r.verdict ≡ 1 → ⊥
mixed_surplus_called_determined r x z = let e = (x.if_accepted tall_accepted).is_verdict in let f = tall_verdict in omega arith

-- Document 01, "Shortcuts that look sound", and further wrong answers: what each of them gives contradicts the promise, on a small model. Assumes
-- nothing.
use Rattle.std.specs.Prelude.{ℕ, suc, ◌≡◌, refl, ◌≢◌, true, false, [], ◌∷◌}
use Rattle.std.proofs.Common.{sym, ap, ◌∙◌, true≢false, arith, eq-eqb}
use Rattle.std.proofs.Math.Bool.{decide}
use Rattle.std.proofs.Math.Option.{none}
use Rattle.std.proofs.Math.Decide.{ℕ_discrete}
use Rattle.counting.specs.Sets.{Set, indicator}
use Rattle.counting.specs.Beside.{beside}
use Rattle.columns.specs.Columns.{members, word_of}
use Rattle.columns.specs.ColumnSets.{whole}
use Rattle.columns.specs.Words.Bits.{bit_zero}
use Rattle.rank.specs.Layered.Rank.{rank, short}
use Rattle.listed_models.specs.ListedModel.{listed_model}
use Rattle.mixed_models.specs.Mixed.{mixed, unit, layered_form}
use Rattle.mixed_models.specs.Starred.Lists.{among}
use Rattle.mixed_models.proofs.Starred.Table.{table}
use Rattle.format.specs.Refusals.{refusal, mixed_refusal}
use Rattle.layered.specs.Answers.{LayeredCall}
use Rattle.layered.specs.Shown.{Answer}
use Rattle.mixed.specs.MixedAnswers.{MixedCall}
use Rattle.mixed.specs.Shown.{MixedAnswer}
use Rattle.refutations.specs.Computing.{computing}
use Rattle.refutations.specs.Accepted.{judging, S9_accepted, joined_accepted}

S4_accepted : refusal 1021 5 2 2 (1 ∷ 1 ∷ 1 ∷ 1 ∷ 0 ∷ 0 ∷ 2 ∷ 1 ∷ 1 ∷ 0 ∷ []) (17 ∷ 18 ∷ []) none ≡ 0
unfolding judging
S4_accepted = refl

-- the constant side is filled first and no column moves: S4 reaches 3
pub constants_first : (r : Answer) → LayeredCall 1021 5 2 2 (1 ∷ 1 ∷ 1 ∷ 1 ∷ 0 ∷ 0 ∷ 2 ∷ 1 ∷ 1 ∷ 0 ∷ []) (17 ∷ 18 ∷ []) none r → r.rank ≡ 3 → ⊥
constants_first r x z = let e = (x.if_accepted S4_accepted).solved.is_rank in let f = table.s4.is_rank in omega arith

two_is_short : among (2 ∷ 3 ∷ []) 2 ≡ true
unfolding among decide ℕ_discrete
two_is_short = refl

-- all unplaced columns are named as short: of S4 {3}, without column 2
pub unplaced_as_short : (r : Answer) → LayeredCall 1021 5 2 2 (1 ∷ 1 ∷ 1 ∷ 1 ∷ 0 ∷ 0 ∷ 2 ∷ 1 ∷ 1 ∷ 0 ∷ []) (17 ∷ 18 ∷ []) none r → members (whole r.short) 2 ≡ false → ⊥
unplaced_as_short r x h = true≢false (sym two_is_short ∙ sym (table.s4.is_short 2) ∙ sym ((x.if_accepted S4_accepted).solved.is_short 2) ∙ h)

S3_accepted : refusal 1021 2 2 0 (1 ∷ 1 ∷ 1 ∷ 1 ∷ []) [] none ≡ 0
unfolding judging
S3_accepted = refl

-- the same balance twice passes for two: S3 is called determined
pub sum_passes_as_another : (r : Answer) → LayeredCall 1021 2 2 0 (1 ∷ 1 ∷ 1 ∷ 1 ∷ []) [] none r → r.verdict ≡ 1 → ⊥
sum_passes_as_another r x z = let e = (x.if_accepted S3_accepted).is_verdict in let f = table.s3.is_verdict in omega arith

-- in a mixed place with both the parameter is dropped: S9 falls to 1
pub parameter_dropped : (r : MixedAnswer) → MixedCall 1021 2 2 2 (1 ∷ 1 ∷ 1 ∷ 1 ∷ []) (1 ∷ 0 ∷ []) none r → r.rank ≡ 1 → ⊥
parameter_dropped r x z = let e = (x.if_accepted S9_accepted).is_rank in let f = table.s9.is_rank in omega arith

-- the verdict is taken from the numbers of rows and columns alone: S8 is called determined
S8_accepted : mixed_refusal 1021 2 2 2 (1 ∷ 1 ∷ 1 ∷ 1 ∷ []) (0 ∷ 0 ∷ []) none ≡ 0
unfolding judging
S8_accepted = refl

pub square_called_determined : (r : MixedAnswer) → MixedCall 1021 2 2 2 (1 ∷ 1 ∷ 1 ∷ 1 ∷ []) (0 ∷ 0 ∷ []) none r → r.verdict ≡ 1 → ⊥
square_called_determined r x z = let e = (x.if_accepted S8_accepted).is_verdict in let f = table.s8.is_verdict in omega arith

-- it refuses every mixed question
pub refuses_mixed : (r : MixedAnswer) → MixedCall 1021 2 2 2 (1 ∷ 1 ∷ 1 ∷ 1 ∷ []) (0 ∷ 0 ∷ []) none r → r.refusal ≢ 0 → ⊥
refuses_mixed r x h = h (x.is_refusal ∙ S8_accepted)

-- ---- two models modulo 2, computed

joined_rank : rank (listed_model 2 2 1 2 (1 ∷ 0 ∷ []) (1 ∷ 1 ∷ [])) ≡ 1
unfolding computing
joined_rank = refl

-- the rank of all constants is added to the largest matching, and the sum cut at n
pub constants_added : (r : Answer) → LayeredCall 2 2 1 2 (1 ∷ 0 ∷ []) (1 ∷ 1 ∷ []) none r → r.rank ≡ 2 → ⊥
constants_added r x z = let e = (x.if_accepted joined_accepted).solved.is_rank in let f = joined_rank in omega arith

-- mixed 1 by 2, constants 1 0, parameters at both
both_accepted : mixed_refusal 2 2 1 1 (1 ∷ 0 ∷ []) (3 ∷ []) none ≡ 0
unfolding judging
both_accepted = refl

both_short : short (layered_form (mixed 2 1 2 (1 ∷ 0 ∷ []) (3 ∷ []))) 0 ≡ true
unfolding computing beside unit
both_short = refl

-- column 0 of a set, in its number
lowest : (k : ℕ) (S : Set) → S 0 ≡ true → members (word_of (suc k) S) 0 ≡ true
unfolding word_of members indicator
lowest k S e = eq-eqb _ 1 (bit_zero (word_of (suc k) S) ∙ (let i : indicator (S 0) ≡ 1 = ap indicator e in omega arith))

-- in a mixed place with both the constant is dropped: the short set of the form is {1, 2}, without column 0
pub constant_dropped : (r : MixedAnswer) → MixedCall 2 2 1 1 (1 ∷ 0 ∷ []) (3 ∷ []) none r → members (whole r.short) 0 ≡ false → ⊥
constant_dropped r x h =
    true≢false (sym (lowest _ (short (layered_form (mixed 2 1 2 (1 ∷ 0 ∷ []) (3 ∷ [])))) both_short) ∙ ap (λ (w : ℕ). members w 0) (sym (x.if_accepted both_accepted).short_number) ∙ h)

-- `editing::open_answer`: the answer over the columns present.
use Rattle.std.proofs.Common.{refl}
use Rattle.columns.specs.Columns.{within_in}
use Rattle.layered.specs.Answers.{offered_refusal}
use Rattle.open_models.specs.Open.{held_tests, present_test, answer_tests, answer_refusal}
use Rattle.layered.proofs.FileLaws.{call_as}
use Rattle.editing.proofs.open_answer.Goals as goal

pub returns : goal.returns
unfolding offered_refusal answer_refusal answer_tests held_tests present_test within_in
returns c = call_as refl (λ h. h.over _ (λ x l. refl)) c.offered_rank.ensures

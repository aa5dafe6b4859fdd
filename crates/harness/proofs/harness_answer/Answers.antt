-- `harness::harness_answer` meets its contract, by what the call and the writing of its answer ensure. Assumes nothing.
use Rattle.std.specs.Prelude.{Ok, Err, take}
use Rattle.std.proofs.Common.{sym}
use Rattle.columns.specs.Bytes.{number}
use Rattle.columns.specs.Columns.{room_bytes}
use Rattle.columns.specs.ColumnSets.{row_numbers}
use Rattle.format.proofs.Refused.{refusal_some}
use Rattle.layered.specs.Shown.{Answer, answer_shown}
use Rattle.layered.specs.Answers.{RankCall, Refused, Answered}
use Rattle.open_models.specs.Open.{Open, answer_refusal, open_model}
use Rattle.host.specs.AnswerBytes.{answer_bytes}
use Rattle.harness.specs.Calls.{holding_columns}
use Rattle.host.proofs.AreaLaws.{put_same}
use Rattle.harness.proofs.CallLaws.{rank_refused, rank_put}
use Rattle.harness.proofs.harness_answer.Goals as goal

-- the call about what is held
abbrev Called : Open → Answer → Type 0
Called O r = RankCall (answer_refusal O) r.refusal (Refused r) (Answered (open_model O) r)

pub returns-in-Ok : goal.returns-in-Ok
unfolding answer_refusal
returns-in-Ok c =
    let a = c.args in
    let h : Called (holding_columns a.p a.n a.a a.b a.constants.now (row_numbers a.parameters.now) (number (take room_bytes a.present.now))) (answer_shown (Ok c.in-Ok.found)) =
    rw (sym c.of_bytes-set.ensures.is_number) (rw c.unnumbered-model.ensures at c.in-Ok.ensures)
    in
    rw c.number.ensures (rank_put answer_bytes _ (answer_shown (Ok c.in-Ok.found)) h (put_same answer_bytes c.of.ensures c.put_answer.ensures))

pub returns-in-Err : goal.returns-in-Err
unfolding answer_refusal
returns-in-Err c =
    let a = c.args in
    let h : Called (holding_columns a.p a.n a.a a.b a.constants.now (row_numbers a.parameters.now) (number (take room_bytes a.present.now))) (answer_shown (Err c.in-Err.refusal)) =
    rw (sym c.of_bytes-set.ensures.is_number) (rw c.unnumbered-model.ensures at c.in-Err.ensures)
    in
    rw c.from.ensures (rank_refused _ _ _ h (refusal_some c.in-Err.refusal))

-- `calls::multipliers`: both areas are tested, the file answered, and then its answer written.
use Rattle.std.specs.Prelude.{Ok}
use Rattle.std.proofs.Common.{arith, sym, ap, ◌∙◌, ◌≡◌, ◌≤◌, ℕ, List, true, length, take}
use Rattle.std.proofs.lemmas.Result.{err_from_is_err_and}
use Rattle.format.proofs.Refused.{refusal_some}
use borrow.Author.Tests.{lt-leb}
use lib.Seq.{take_all, length-take-le}
use Rattle.limits.specs.Limits.{set_bytes}
use Rattle.columns.specs.Bytes.{number}
use Rattle.columns.specs.Columns.{room_bytes, members}
use Rattle.format.specs.Refusals.{unless, area_short, area_test}
use Rattle.format.specs.RefusalLaws.{then_zero, zero_then, zero_unless}
use Rattle.format.specs.TestLaws.{area_reads}
use Rattle.format.specs.File.Piece.{closed}
use Rattle.format.specs.File.Format.{fields, decode}
use Rattle.host.specs.AreaCall.{WrittenOver}
use Rattle.host.proofs.AreaLaws.{refused_short, refused_beside, refused_around, passed_beside, answer_put, put_same}
use Rattle.multipliers.specs.Shown.{multipliers_shown}
use Rattle.multipliers.specs.Answers.{column_question, FileAnswered}
use Rattle.multipliers.specs.Bytes.{multipliers_length, multipliers_bytes}
use Rattle.solvability.specs.Host.{set_shown, multipliers_question}
use Rattle.solvability.proofs.calls.multipliers.Goals as goal

-- a set read from bytes that are long enough is the one that its area shows
held_is : (held : List ℕ) {w : ℕ} → set_bytes ≤ length held → w ≡ number (take room_bytes (take set_bytes held)) → w ≡ set_shown held
held_is held l e = e ∙ ap number (take_all room_bytes (take set_bytes held) (omega (arith, length-take-le set_bytes held l)))

pub returns-then-answer-lt-MULTIPLIERS_LENGTH : goal.returns-then-answer-lt-MULTIPLIERS_LENGTH
returns-then-answer-lt-MULTIPLIERS_LENGTH c =
    let a = c.args in
    refused_short (closed fields a.file.now) (multipliers_question a.file.now a.held.now a.column) multipliers_length (WrittenOver (FileAnswered a.file.now (members (set_shown a.held.now)) a.column) multipliers_bytes) a.answer.now c.if-answer-lt-MULTIPLIERS_LENGTH.true _ c.refuse_area.ensures

pub returns-then-held-lt-SET_BYTES : goal.returns-then-held-lt-SET_BYTES
unfolding area_test
returns-then-held-lt-SET_BYTES c =
    let a = c.args in
    refused_beside (closed fields a.file.now) (column_question (decode a.file.now).n (set_shown a.held.now) a.column) (area_test set_bytes (length a.held.now)) multipliers_length (WrittenOver (FileAnswered a.file.now (members (set_shown a.held.now)) a.column) multipliers_bytes) a.answer.now c.if-answer-lt-MULTIPLIERS_LENGTH.false (lt-leb _ _ c.if-held-lt-SET_BYTES.true) _ c.refuse_area-then-held-lt-SET_BYTES.ensures

pub returns-in_err-r : goal.returns-in_err-r
returns-in_err-r c =
    let a = c.args in
    let told = rw (held_is a.held.now c.if-held-lt-SET_BYTES.false c.of_bytes-set.ensures.is_number) at c.in_err-r.ensures in
    let passes : area_test set_bytes (length a.held.now) ≡ true = (area_reads _ _).1 c.if-held-lt-SET_BYTES.false in
    let p = err_from_is_err_and c.from_residual.result c.from_residual.ensures.1 in
    rw (p.1, p.2)
    (refused_around (closed fields a.file.now) (multipliers_question a.file.now a.held.now a.column) multipliers_length (WrittenOver (FileAnswered a.file.now (members (set_shown a.held.now)) a.column) multipliers_bytes) a.answer.now c.if-answer-lt-MULTIPLIERS_LENGTH.false _
    (told.is_refusal ∙ passed_beside (closed fields a.file.now) (column_question (decode a.file.now).n (set_shown a.held.now) a.column) (area_test set_bytes (length a.held.now)) passes) (refusal_some _))

pub returns : goal.returns
returns c =
    let a = c.args in
    let told = rw (held_is a.held.now c.if-held-lt-SET_BYTES.false c.of_bytes-set.ensures.is_number) at c.in_ok-r.ensures in
    let passes : area_test set_bytes (length a.held.now) ≡ true = (area_reads _ _).1 c.if-held-lt-SET_BYTES.false in
    let asked = column_question (decode a.file.now).n (set_shown a.held.now) a.column in
    let ok = sym told.is_refusal in
    let each = then_zero (closed fields a.file.now) asked ok in
    answer_put multipliers_bytes (closed fields a.file.now) (multipliers_question a.file.now a.held.now a.column) (multipliers_shown (Ok c.in_ok-r.r)) (told.if_accepted ok) each.0
    (zero_then (unless (area_test set_bytes (length a.held.now)) area_short) asked (zero_unless _ area_short passes) each.1) (put_same multipliers_bytes c.of.ensures c.put_multipliers.ensures)

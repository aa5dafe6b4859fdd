-- `edit::judge_named_row` meets its contract. Assumes nothing.
use Rattle.std.proofs.Common.{sym, ap, ◌∙◌}
use Rattle.format.specs.Refusals.{first_refusal}
use Rattle.open_models.specs.Open.{row_tests}
use Rattle.editing.specs.Edits.{meant, row_refusal}
use Rattle.editing.specs.declared.edit.Edit.{Edit}
use Rattle.editing.proofs.edit.judge_named_row.Goals as goal

pub returns-in-SetPlace : goal.returns-in-SetPlace
unfolding row_refusal row_tests
returns-in-SetPlace c = c.judge_row.ensures ∙ sym (ap (λ (e : Edit). row_refusal c.args.b (meant e)) c.in-SetPlace.is)

pub returns-in-ClearPlace : goal.returns-in-ClearPlace
unfolding row_refusal row_tests
returns-in-ClearPlace c = c.judge_row-in-ClearPlace.ensures ∙ sym (ap (λ (e : Edit). row_refusal c.args.b (meant e)) c.in-ClearPlace.is)

pub returns-in-TakeOff : goal.returns-in-TakeOff
unfolding row_refusal row_tests first_refusal
returns-in-TakeOff c = sym (ap (λ (e : Edit). row_refusal c.args.b (meant e)) c.in-TakeOff.is)

pub returns-in-PutBack : goal.returns-in-PutBack
unfolding row_refusal row_tests first_refusal
returns-in-PutBack c = sym (ap (λ (e : Edit). row_refusal c.args.b (meant e)) c.in-PutBack.is)

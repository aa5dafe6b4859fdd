-- `edit::judge_presence` meets its contract. Assumes nothing.
use Rattle.std.proofs.Common.{Bool, not, sym, ap, ◌∙◌}
use Rattle.columns.specs.ColumnSets.{whole}
use Rattle.format.specs.Refusals.{unless, first_refusal, already_so}
use Rattle.open_models.specs.Open.{presence_tests}
use Rattle.editing.specs.Edits.{meant, presence_refusal}
use Rattle.editing.specs.declared.edit.Edit.{Edit}
use Rattle.editing.proofs.edit.judge_presence.Goals as goal

pub returns-in-TakeOff : goal.returns-in-TakeOff
unfolding presence_refusal presence_tests
returns-in-TakeOff c =
    c.judge_is.ensures ∙ ap (λ (t : Bool). first_refusal (unless t already_so)) c.contains.ensures
    ∙ sym (ap (λ (e : Edit). presence_refusal (whole c.args.present) (meant e)) c.in-TakeOff.is)

pub returns-in-PutBack : goal.returns-in-PutBack
unfolding presence_refusal presence_tests
returns-in-PutBack c =
    c.judge_is-in-PutBack.ensures ∙ ap (λ (t : Bool). first_refusal (unless (not t) already_so)) c.contains-in-PutBack.ensures
    ∙ sym (ap (λ (e : Edit). presence_refusal (whole c.args.present) (meant e)) c.in-PutBack.is)

pub returns-in-SetPlace : goal.returns-in-SetPlace
unfolding presence_refusal presence_tests first_refusal
returns-in-SetPlace c = sym (ap (λ (e : Edit). presence_refusal (whole c.args.present) (meant e)) c.in-SetPlace.is)

pub returns-in-ClearPlace : goal.returns-in-ClearPlace
unfolding presence_refusal presence_tests first_refusal
returns-in-ClearPlace c = sym (ap (λ (e : Edit). presence_refusal (whole c.args.present) (meant e)) c.in-ClearPlace.is)

-- `edit::changed_columns` meets its contract. Assumes nothing.
use Rattle.std.proofs.Common.{sym, ap, ◌∙◌, rules}
use Rattle.columns.specs.Columns.{width}
use Rattle.columns.specs.ColumnSets.{whole}
use Rattle.columns.specs.Words.Sets.{whole_below}
use Rattle.columns.specs.Words.Operations.{word_members}
use Rattle.open_models.specs.Open.{present_done}
use Rattle.editing.specs.Edits.{meant, place_done, columns_done}
use Rattle.editing.proofs.EditLaws.{with_column, without_column}
use Rattle.editing.specs.declared.edit.Edit.{Edit}
use Rattle.editing.proofs.edit.changed_columns.Goals as goal

pub returns-in-TakeOff : goal.returns-in-TakeOff
unfolding columns_done present_done place_done
returns-in-TakeOff c =
    without_column (whole c.args.present) _ _ (whole_below _ (search (rules, c.without.type_inv))) c.without.ensures
    ∙ sym (ap (λ (e : Edit). columns_done (whole c.args.present) (meant e)) c.in-TakeOff.is)

pub returns-in-PutBack : goal.returns-in-PutBack
unfolding columns_done present_done place_done
returns-in-PutBack c =
    with_column (whole c.args.present) _ _ (whole_below _ (search (rules, c.with.type_inv))) c.with.ensures
    ∙ sym (ap (λ (e : Edit). columns_done (whole c.args.present) (meant e)) c.in-PutBack.is)

pub returns-in-SetPlace : goal.returns-in-SetPlace
unfolding columns_done present_done
returns-in-SetPlace c =
    word_members width (whole c.args.present) (whole_below _ (search (rules, c.well_formed)))
    ∙ sym (ap (λ (e : Edit). columns_done (whole c.args.present) (meant e)) c.in-SetPlace.is)

pub returns-in-ClearPlace : goal.returns-in-ClearPlace
unfolding columns_done present_done
returns-in-ClearPlace c =
    word_members width (whole c.args.present) (whole_below _ (search (rules, c.well_formed)))
    ∙ sym (ap (λ (e : Edit). columns_done (whole c.args.present) (meant e)) c.in-ClearPlace.is)

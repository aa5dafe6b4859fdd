-- `edit::change_rows` meets its contract. Assumes nothing.
use Rattle.std.proofs.Common.{true, false, sym, ap, ◌∙◌, rules}
use Rattle.columns.specs.Words.Sets.{whole_below}
use Rattle.editing.specs.Edits.{meant, words_done}
use Rattle.editing.proofs.EditLaws.{with_column, without_column, row_changed}
use Rattle.editing.specs.declared.edit.Edit.{Edit}
use Rattle.editing.proofs.edit.change_rows.Goals as goal

pub returns-in-SetPlace : goal.returns-in-SetPlace
unfolding words_done
returns-in-SetPlace c =
    c.put_row.ensures
    ∙ row_changed c.args.words.now _ _ _ _ true c.row.ensures (with_column _ _ _ (whole_below _ (search (rules, c.with-row.type_inv))) c.with-row.ensures)
    ∙ sym (ap (λ (e : Edit). words_done c.args.words.now (meant e)) c.in-SetPlace.is)

pub returns-in-ClearPlace : goal.returns-in-ClearPlace
unfolding words_done
returns-in-ClearPlace c =
    c.put_row-in-ClearPlace.ensures
    ∙ row_changed c.args.words.now _ _ _ _ false c.row-in-ClearPlace.ensures (without_column _ _ _ (whole_below _ (search (rules, c.without-row.type_inv))) c.without-row.ensures)
    ∙ sym (ap (λ (e : Edit). words_done c.args.words.now (meant e)) c.in-ClearPlace.is)

pub returns-in-TakeOff : goal.returns-in-TakeOff
unfolding words_done
returns-in-TakeOff c = sym (ap (λ (e : Edit). words_done c.args.words.now (meant e)) c.in-TakeOff.is)

pub returns-in-PutBack : goal.returns-in-PutBack
unfolding words_done
returns-in-PutBack c = sym (ap (λ (e : Edit). words_done c.args.words.now (meant e)) c.in-PutBack.is)

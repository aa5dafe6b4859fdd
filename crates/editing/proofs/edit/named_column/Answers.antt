-- `edit::named_column` meets its contract. Assumes nothing.
use Rattle.std.proofs.Common.{sym, ap}
use Rattle.open_models.specs.Open.{column_of}
use Rattle.editing.specs.Edits.{meant}
use Rattle.editing.specs.declared.edit.Edit.{Edit}
use Rattle.editing.proofs.edit.named_column.Goals as goal

pub returns-in-TakeOff : goal.returns-in-TakeOff
unfolding column_of
returns-in-TakeOff c = sym (ap (λ (e : Edit). column_of (meant e)) c.in-TakeOff.is)

pub returns-in-PutBack : goal.returns-in-PutBack
unfolding column_of
returns-in-PutBack c = sym (ap (λ (e : Edit). column_of (meant e)) c.in-PutBack.is)

pub returns-in-SetPlace : goal.returns-in-SetPlace
unfolding column_of
returns-in-SetPlace c = sym (ap (λ (e : Edit). column_of (meant e)) c.in-SetPlace.is)

pub returns-in-ClearPlace : goal.returns-in-ClearPlace
unfolding column_of
returns-in-ClearPlace c = sym (ap (λ (e : Edit). column_of (meant e)) c.in-ClearPlace.is)

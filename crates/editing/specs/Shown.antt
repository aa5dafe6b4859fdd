-- What the calls on an open model give in numbers, with that of a refusal, and what the code gives in that form. Definitions only.
use Rattle.std.specs.Prelude.{ℕ, Result, Ok, Err}
use Rattle.columns.specs.declared.ColumnSet.{ColumnSet}
use Rattle.columns.specs.ColumnSets.{empty_set}
use Rattle.format.specs.Refused.{refusal_number, refusal_of}
use Rattle.format.specs.declared.refusals.Refusal.{Refusal}
use Rattle.editing.specs.declared.edit.Edit.{Edit}
use Rattle.editing.specs.declared.edit.Edit.TheVariants.{TakeOff}

-- the refusal or 0, and the columns present
pub record Held : Type 0 where
  pub refusal : ℕ
  pub present : ColumnSet

-- an opening that is refused leaves no column present
abbrev pub opened_shown : Result ColumnSet Refusal → Held
opened_shown (Ok s) = record { refusal = 0; present = s }
opened_shown (Err e) = record { refusal = refusal_number e; present = empty_set }

-- an edit: the refusal or 0, and the columns present after it
abbrev pub edited_shown : {A : Type 0} (present : ColumnSet) → Result A Refusal → Held
edited_shown present r = record { refusal = refusal_of r; present = present }

-- the same where an edit gives the columns present after it, of those before
abbrev pub made_shown : (before : ColumnSet) → Result ColumnSet Refusal → Held
made_shown before (Ok s) = record { refusal = 0; present = s }
made_shown before (Err e) = record { refusal = refusal_number e; present = before }

-- the refusal or 0, and an edit
pub record NamedEdit : Type 0 where
  pub refusal : ℕ
  pub edit : Edit

-- where none is named, column 0 is taken off
abbrev pub edit_shown : Result Edit Refusal → NamedEdit
edit_shown (Ok e) = record { refusal = 0; edit = e }
edit_shown (Err r) = record { refusal = refusal_number r; edit = TakeOff 0 }

-- An answer about the degree in numbers, with that of its refusal, and what the code gives in that form.
-- Definitions only.
use Rattle.std.specs.Prelude.{ℕ, List, replicate, Result, Ok, Err}
use Rattle.limits.specs.Limits.{most_rows, no_column}
use Rattle.columns.specs.declared.ColumnSet.{ColumnSet}
use Rattle.columns.specs.ColumnSets.{empty_set}
use Rattle.format.specs.Refused.{refusal_number}
use Rattle.format.specs.declared.refusals.Refusal.{Refusal}
use Rattle.degree.specs.declared.Degree as code

-- the refusal or 0; the degree; and an assignment that reaches it: the columns on the constant side, and the column of each parameter row, 255 for the rows
-- that the model does not have
pub record Degree : Type 0 where
  pub refusal : ℕ
  pub degree : ℕ
  pub constants : ColumnSet
  pub rows : List ℕ

-- an answer refuses nothing; a refusal has the degree 0, no column on the constant side and no row with a column
abbrev pub degree_shown : Result code.Degree Refusal → Degree
degree_shown (Ok r) = record { refusal = 0; degree = r.degree; constants = r.constants; rows = r.rows }
degree_shown (Err e) = record { refusal = refusal_number e; degree = 0; constants = empty_set; rows = replicate most_rows no_column }

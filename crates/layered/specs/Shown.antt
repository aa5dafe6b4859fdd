-- An answer in numbers, with that of its refusal, and what the code gives in that form. Definitions only.
use Rattle.std.specs.Prelude.{ℕ, List, replicate, Result, Ok, Err}
use Rattle.limits.specs.Limits.{most_rows, no_column}
use Rattle.columns.specs.declared.ColumnSet.{ColumnSet}
use Rattle.columns.specs.ColumnSets.{empty_set}
use Rattle.models.specs.Verdicts.{verdict_code}
use Rattle.format.specs.Refused.{refusal_number}
use Rattle.format.specs.declared.refusals.Refusal.{Refusal}
use Rattle.layered.specs.declared.Answer as code

-- the refusal or 0; the verdict, 0 "open", 1 "determined" or 2 "surplus"; the rank; the placed columns, those of them on the constant side, and the short
-- set; and the column of each parameter row, or that it has none
pub record Answer : Type 0 where
  pub refusal : ℕ
  pub verdict : ℕ
  pub rank : ℕ
  pub placed : ColumnSet
  pub constants : ColumnSet
  pub short : ColumnSet
  pub rows : List ℕ

-- an answer refuses nothing; a refusal has every other number 0, every set empty and no row with a column
abbrev pub answer_shown : Result code.Answer Refusal → Answer
answer_shown (Ok r) = record {
  refusal = 0;
  verdict = verdict_code r.verdict;
  rank = r.rank;
  placed = r.placed;
  constants = r.constants;
  short = r.short;
  rows = r.rows;
}
answer_shown (Err e) = record {
  refusal = refusal_number e;
  verdict = 0;
  rank = 0;
  placed = empty_set;
  constants = empty_set;
  short = empty_set;
  rows = replicate most_rows no_column;
}

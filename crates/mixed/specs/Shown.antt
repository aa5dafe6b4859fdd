-- An answer to a mixed question in numbers, with that of its refusal, and what the code gives in that form.
-- Definitions only.
use Rattle.std.specs.Prelude.{ℕ, Result, Ok, Err}
use Rattle.columns.specs.declared.ColumnSet.{ColumnSet}
use Rattle.columns.specs.ColumnSets.{empty_set}
use Rattle.models.specs.Verdicts.{verdict_code}
use Rattle.format.specs.Refused.{refusal_number}
use Rattle.format.specs.declared.refusals.Refusal.{Refusal}
use Rattle.mixed.specs.declared.MixedAnswer as code

-- the refusal or 0; the verdict, 0 "open", 1 "determined" or 2 "surplus"; the rank; rows I and columns J that reach it; and the short set of the layered
-- form
pub record MixedAnswer : Type 0 where
  pub refusal : ℕ
  pub verdict : ℕ
  pub rank : ℕ
  pub rows : ColumnSet
  pub columns : ColumnSet
  pub short : ColumnSet

-- an answer refuses nothing; a refusal has every other number 0 and every set empty
abbrev pub mixed_shown : Result code.MixedAnswer Refusal → MixedAnswer
mixed_shown (Ok r) = record {
  refusal = 0;
  verdict = verdict_code r.verdict;
  rank = r.rank;
  rows = r.rows;
  columns = r.columns;
  short = r.short;
}
mixed_shown (Err e) = record {
  refusal = refusal_number e;
  verdict = 0;
  rank = 0;
  rows = empty_set;
  columns = empty_set;
  short = empty_set;
}

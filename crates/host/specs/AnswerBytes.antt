-- The bytes of answers, by document 01, "The host and the program". Definitions only.
use Rattle.std.specs.Prelude.{ℕ, ◌+◌, ◌*◌, List, ◌∷◌, ◌++◌}
use Rattle.limits.specs.Limits.{most_rows, set_bytes}
use Rattle.columns.specs.Bytes.{bytes_of}
use Rattle.columns.specs.ColumnSets.{whole}
use Rattle.rank.specs.Layered.Model.{Model}
use Rattle.mixed_models.specs.Mixed.{Mixed}
use Rattle.layered.specs.Shown.{Answer}
use Rattle.layered.specs.Answers.{Answered}
use Rattle.mixed.specs.Shown.{MixedAnswer}
use Rattle.mixed.specs.MixedAnswers.{MixedAnswered}
use Rattle.host.specs.declared.AnswerNumbers.{AnswerNumbers}
use Rattle.host.specs.declared.MixedNumbers.{MixedNumbers}
use Rattle.host.specs.AreaCall.{WrittenOver}

-- what every answer's bytes begin with: verdict, rank and three sets
abbrev pub front_length : ℕ
front_length = 2 + 3 * set_bytes

unfoldable pub front_bytes : (the-verdict the_rank first second third : ℕ) → List ℕ
front_bytes the-verdict the_rank first second third = the-verdict ∷ the_rank ∷ (bytes_of set_bytes first ++ (bytes_of set_bytes second ++ bytes_of set_bytes third))

-- ---- layered models

abbrev pub answer_length : ℕ
answer_length = front_length + most_rows

-- verdict, rank, placed set, constant side, short set, and the column of each row
abbrev pub answer_bytes : Answer → List ℕ
answer_bytes r = front_bytes r.verdict r.rank (whole r.placed) (whole r.constants) (whole r.short) ++ r.rows

-- numbers that are put, as an answer; they refuse nothing
abbrev pub answer_numbers : AnswerNumbers → Answer
answer_numbers r = record {
  refusal = 0;
  verdict = r.verdict;
  rank = r.rank;
  placed = r.placed;
  constants = r.constants;
  short = r.short;
  rows = r.rows;
}

-- the answer written over the front of the area: its numbers, sets and rows are those of the layered rank call, with demand 3 of the rank and the
-- short set among them (`Answered`)
abbrev pub AnswerWritten : (M : Model) (area area' : List ℕ) → Type 0
AnswerWritten M = WrittenOver (Answered M) answer_bytes

-- ---- mixed models

abbrev pub mixed_length : ℕ
mixed_length = front_length

-- verdict, rank, rows I, columns J, and the short set of the layered form
abbrev pub mixed_bytes : MixedAnswer → List ℕ
mixed_bytes r = front_bytes r.verdict r.rank (whole r.rows) (whole r.columns) (whole r.short)

-- numbers that are put, as an answer; they refuse nothing
abbrev pub mixed_numbers : MixedNumbers → MixedAnswer
mixed_numbers r = record {
  refusal = 0;
  verdict = r.verdict;
  rank = r.rank;
  rows = r.rows;
  columns = r.columns;
  short = r.short;
}

-- the answer written over the front of the area; which I and J it shows is as open as in `MixedAnswered`
abbrev pub MixedWritten : (X : Mixed) (area area' : List ℕ) → Type 0
MixedWritten X = WrittenOver (MixedAnswered X) mixed_bytes

-- What the program `check` writes of a file, by document 01, "The host and the program". Definitions only.
use Rattle.std.specs.Prelude.{ℕ, ◌≡◌, ◌≢◌, List, Result}
use Rattle.format.specs.File.Format.{judge}
use Rattle.layered.specs.Answers.{Answered, AnswerShown}
use Rattle.layered.specs.FileModel.{file_model}
use Rattle.text.specs.Text.{refused_line, Prints}
use Rattle.format.specs.declared.refusals.Refusal.{Refusal}
use Rattle.report.specs.Report.{answer_text}

-- the report of a call: the one line of the refusal that is due, or else the text of some answer of which this holds. An area that this very text
-- has no room in is refused, and stays as it is (`Prints`).
pub record Reports {A : Type 0} (due : ℕ) (Holds : A → Type 0) (text : A → List ℕ) (area : List ℕ) (r : Result ℕ Refusal) (area' : List ℕ) : Type 0 where
  pub if_refused : due ≢ 0 → Prints (refused_line due) area r area'
  pub if_accepted : due ≡ 0 → AnswerShown Holds (λ t. Prints (text t) area r area')

-- the report of a file: of its refusal, or the five lines of an answer to its model; which side and row a placed column takes is as open as in `Answered`
abbrev pub FileReport : (file area : List ℕ) (r : Result ℕ Refusal) (area' : List ℕ) → Type 0
FileReport file area r area' = Reports (judge file) (Answered (file_model file)) answer_text area r area'

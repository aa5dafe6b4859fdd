-- Document 01, "The host and the program", and document 02, E1, E2, E5, E7, E12 and E14: the calls for a host in C. Definitions only.
use Rattle.std.specs.Prelude.{ℕ, List, [], length, take}
use Rattle.limits.specs.Limits.{set_bytes}
use Rattle.columns.specs.Bytes.{number}
use Rattle.columns.specs.Columns.{members}
use Rattle.format.specs.Refusals.{Tests, unless, ◌then◌, area_short, column_beyond, area_test}
use Rattle.format.specs.File.Piece.{closed}
use Rattle.format.specs.File.Format.{fields, decode}
use Rattle.format.specs.File.Unnumbered.{unnumbered_fields}
use Rattle.layered.specs.FileModel.{file_model}
use Rattle.mixed.specs.MixedAnswers.{file_mixed, mixed_question}
use Rattle.host.specs.AreaCall.{AreaCall, WrittenOver}
use Rattle.host.specs.AnswerBytes.{answer_length, AnswerWritten, mixed_length, MixedWritten}
use Rattle.open_models.specs.Open.{present_test, open_model}
use Rattle.editing.specs.Areas.{area_file, area_open, OpenAreaCall, EditAreaCall}
use Rattle.multipliers.specs.Answers.{column_question, FileAnswered}
use Rattle.multipliers.specs.Bytes.{multipliers_length, multipliers_bytes}
use Rattle.reason.specs.Answers.{reason_question, FileReason}
use Rattle.reason.specs.Bytes.{reason_length, reason_bytes}
use Rattle.acceptance.specs.Bytes.{claim_question, AcceptanceOf, acceptance_length, acceptance_bytes}
use Rattle.blocks.specs.Answers.{BlocksAnswered}
use Rattle.blocks.specs.Bytes.{blocks_length, blocks_bytes}
use Rattle.degrees.specs.Degrees.{listed_powers}
use Rattle.degree.specs.Answers.{file_question, DegreeAnswered}
use Rattle.degree.specs.Bytes.{degree_length, degree_bytes}

-- the layered call: 1 to 7 and 13 as the file is judged, then 8 for the area; where it refuses, the area is as it was
abbrev pub HostAnswer : (file area : List ℕ) (number : ℕ) (area' : List ℕ) → Type 0
HostAnswer file = AreaCall (closed fields file) [] answer_length (AnswerWritten (file_model file))

-- the mixed call: 1 to 7 and 13, then 8, then 10 for a file that holds no mixed question
abbrev pub HostMixedAnswer : (file area : List ℕ) (number : ℕ) (area' : List ℕ) → Type 0
HostMixedAnswer file = AreaCall (closed fields file) (mixed_question file) mixed_length (MixedWritten (file_mixed file))

-- the set that an area shows: its first bytes, as many as a set has
abbrev pub set_shown : List ℕ → ℕ
set_shown held = number (take set_bytes held)

-- what the call about multipliers asks: 8 for too short an area of held columns, then 11
abbrev pub multipliers_question : (file held : List ℕ) (x : ℕ) → Tests
multipliers_question file held x = unless (area_test set_bytes (length held)) area_short then column_question (decode file).n (set_shown held) x

-- the call about multipliers: 1 to 7 and 13, then 8 for both areas, then 11
abbrev pub HostMultipliers : (file held : List ℕ) (x : ℕ) (area : List ℕ) (number : ℕ) (area' : List ℕ) → Type 0
HostMultipliers file held x =
    AreaCall (closed fields file) (multipliers_question file held x) multipliers_length (WrittenOver (FileAnswered file (members (set_shown held)) x) multipliers_bytes)

-- the call about the reason for column x: 1 to 7 and 13, then 8, then 11, then 12
abbrev pub HostReason : (file : List ℕ) (x : ℕ) (area : List ℕ) (number : ℕ) (area' : List ℕ) → Type 0
HostReason file x = AreaCall (closed fields file) (reason_question (file_model file) x) reason_length (WrittenOver (FileReason file x) reason_bytes)

-- the call about a claim: 1 to 7 and 13, then 8 for both areas; no claim is refused
abbrev pub HostAccepts : (file claim area : List ℕ) (number : ℕ) (area' : List ℕ) → Type 0
HostAccepts file claim = AreaCall (closed fields file) (claim_question claim) acceptance_length (WrittenOver (AcceptanceOf (file_model file) claim) acceptance_bytes)

-- the call about blocks: 1 to 7 and 13, then 8
abbrev pub HostBlocks : (file area : List ℕ) (number : ℕ) (area' : List ℕ) → Type 0
HostBlocks file = AreaCall (closed fields file) [] blocks_length (WrittenOver (BlocksAnswered (file_model file)) blocks_bytes)

-- the call about the degree, with areas for the powers of constant rows, columns and parameters: 1 to 7 and 13, then 8 for all four areas, then 16
abbrev pub HostDegree : (file rp cp pp area : List ℕ) (number : ℕ) (area' : List ℕ) → Type 0
HostDegree file rp cp pp =
    AreaCall (closed fields file) (file_question file rp cp pp) degree_length
    (WrittenOver (DegreeAnswered (file_model file) (listed_powers (decode file).n rp cp pp)) degree_bytes)

-- a model opened in an area: 1 to 7 and 13, then 8 for an area that cannot hold the open model
abbrev pub HostOpen : (file area : List ℕ) (number : ℕ) (area' : List ℕ) → Type 0
HostOpen = OpenAreaCall

-- an edit of the open model in an area: 1 to 7 as its unnumbered file is judged, then 1 and 2 for the bytes of the edit, then 9, 11 and 14
abbrev pub HostEdit : (area bytes : List ℕ) (number : ℕ) (area' : List ℕ) → Type 0
HostEdit = EditAreaCall

-- the answer to the open model in an area: 1 to 7, then 8 for the answer's area, then 11 for a column held as present
abbrev pub HostOpenAnswer : (area answer : List ℕ) (number : ℕ) (answer' : List ℕ) → Type 0
HostOpenAnswer area = AreaCall (closed unnumbered_fields (area_file area)) (unless (present_test (area_open area)) column_beyond) answer_length (AnswerWritten (open_model (area_open area)))

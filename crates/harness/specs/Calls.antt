-- The calls for a model handed over, their answers as the bytes of the calls on files; and the reading of a file into areas. Definitions only.
use Rattle.std.specs.Prelude.{ℕ, ◌≡◌, Bool, true, false, List, [], length, take, Result, Some, None}
use Rattle.std.specs.Prelude as prelude
use Rattle.std.specs.Borrow.{Bor}
use Rattle.std.proofs.Math.Option.{Option}
use Rattle.listed_models.specs.ListedModel.{listed_model}
use Rattle.mixed_models.specs.Mixed.{mixed}
use Rattle.limits.specs.Limits.{set_bytes}
use Rattle.columns.specs.Bytes.{number, bytes_of}
use Rattle.columns.specs.Columns.{members}
use Rattle.columns.specs.ColumnSets.{whole, row_numbers}
use Rattle.models.specs.declared.LentModel.{LentModel}
use Rattle.format.specs.Lists.{over}
use Rattle.format.specs.Refusals.{unless, ◌then◌, first_refusal, where_accepted, area_short, area_test, model_tests, mixed_tests}
use Rattle.format.specs.Refused.{refusal_of}
use Rattle.format.specs.declared.refusals.Refusal.{Refusal}
use Rattle.loader.specs.declared.header.Sizes.{Sizes}
use Rattle.loader.specs.FileRead.{FileRead}
use Rattle.host.specs.AreaCall.{AreaCall, WrittenOver}
use Rattle.host.specs.AnswerBytes.{answer_length, AnswerWritten, mixed_length, MixedWritten}
use Rattle.open_models.specs.Open.{Open, opened, edit_tests, answer_tests, open_model}
use Rattle.editing.specs.Calls.{ShowsColumns}
use Rattle.editing.specs.Edits.{kind_tests, edit_by, words_done, columns_done}
use Rattle.multipliers.specs.Answers.{column_question, MultipliersAnswered}
use Rattle.multipliers.specs.Bytes.{multipliers_length, multipliers_bytes}
use Rattle.reason.specs.Answers.{reason_question, ReasonAnswered}
use Rattle.reason.specs.Bytes.{reason_length, reason_bytes}
use Rattle.acceptance.specs.Bytes.{claim_question, AcceptanceOf, acceptance_length, acceptance_bytes}
use Rattle.blocks.specs.Answers.{BlocksAnswered}
use Rattle.blocks.specs.Bytes.{blocks_length, blocks_bytes}
use Rattle.degrees.specs.Degrees.{listed_powers}
use Rattle.degree.specs.Answers.{dynamic_tests, DegreeAnswered}
use Rattle.degree.specs.Bytes.{degree_length, degree_bytes}

-- the model of these numbers and lent rows, with its numbers where it is told that it has them
abbrev pub numbers_told : Bool → Bor (List ℕ) → prelude.Option (Bor (List ℕ))
numbers_told false ks = None
numbers_told true ks = Some ks

abbrev pub model_lent : (p n a b : ℕ) (constants parameters : Bor (List ℕ)) → Bool → Bor (List ℕ) → LentModel
model_lent p n a b cs ws numbered ks = record { p = p; n = n; a = a; b = b; constants = cs; parameters = ws; numbers = numbers_told numbered ks }

-- the layered call: as the model is judged, then 8 for the area
abbrev pub LayeredBytes : (p n a b : ℕ) (cs ws : List ℕ) → Option (List ℕ) → (area : List ℕ) (number : ℕ) (area' : List ℕ) → Type 0
LayeredBytes p n a b cs ws ns = AreaCall (model_tests p n a b cs ws ns) [] answer_length (AnswerWritten (listed_model p n a b cs ws))

-- the mixed call: as the model and the question are judged, then 8 for the area
abbrev pub MixedBytes : (p n a b : ℕ) (cs ws : List ℕ) → Option (List ℕ) → (area : List ℕ) (number : ℕ) (area' : List ℕ) → Type 0
MixedBytes p n a b cs ws ns = AreaCall (mixed_tests p n a b cs ws ns) [] mixed_length (MixedWritten (mixed p a n cs ws))

-- the call about multipliers, with the held columns as a number: as the model and the columns are judged, then 8 for the area
abbrev pub MultipliersBytes : (p n a b : ℕ) (cs ws : List ℕ) → Option (List ℕ) → (held x : ℕ) (area : List ℕ) (number : ℕ) (area' : List ℕ) → Type 0
MultipliersBytes p n a b cs ws ns held x =
    AreaCall (model_tests p n a b cs ws ns then column_question n held x) [] multipliers_length (WrittenOver (MultipliersAnswered p n a cs (members held) x) multipliers_bytes)

-- the call about the reason for column x: as the model and the column are judged, then 8 for the area
abbrev pub ReasonBytes : (p n a b : ℕ) (cs ws : List ℕ) → Option (List ℕ) → (x : ℕ) (area : List ℕ) (number : ℕ) (area' : List ℕ) → Type 0
ReasonBytes p n a b cs ws ns x =
    AreaCall (model_tests p n a b cs ws ns then reason_question (listed_model p n a b cs ws) x) [] reason_length (WrittenOver (ReasonAnswered p n a b cs ws x) reason_bytes)

-- the call about the claim in these bytes: as the model is judged, then 8 for both areas
abbrev pub AcceptanceCallBytes : (p n a b : ℕ) (cs ws : List ℕ) → Option (List ℕ) → (claim area : List ℕ) (number : ℕ) (area' : List ℕ) → Type 0
AcceptanceCallBytes p n a b cs ws ns claim =
    AreaCall (model_tests p n a b cs ws ns) (claim_question claim) acceptance_length (WrittenOver (AcceptanceOf (listed_model p n a b cs ws) claim) acceptance_bytes)

-- the call about blocks: as the model is judged, then 8 for the area
abbrev pub BlocksCallBytes : (p n a b : ℕ) (cs ws : List ℕ) → Option (List ℕ) → (area : List ℕ) (number : ℕ) (area' : List ℕ) → Type 0
BlocksCallBytes p n a b cs ws ns = AreaCall (model_tests p n a b cs ws ns) [] blocks_length (WrittenOver (BlocksAnswered (listed_model p n a b cs ws)) blocks_bytes)

-- the call about the degree: as the model, its areas of powers and then the question are judged, then 8 for the area
abbrev pub DegreeCallBytes : (p n a b : ℕ) (cs ws : List ℕ) → Option (List ℕ) → (rp cp pp area : List ℕ) (number : ℕ) (area' : List ℕ) → Type 0
DegreeCallBytes p n a b cs ws ns rp cp pp =
    AreaCall (dynamic_tests p n a b cs ws ns rp cp pp) [] degree_length (WrittenOver (DegreeAnswered (listed_model p n a b cs ws) (listed_powers n rp cp pp)) degree_bytes)

-- an open model of which the columns of the number w are present
abbrev pub holding_columns : (p n a b : ℕ) (cs ws : List ℕ) (w : ℕ) → Open
holding_columns p n a b cs ws w = record { p = p; n = n; a = a; b = b; cs = cs; ws = ws; present = members w }

-- opening: as the model is judged, then 8 for the area of the columns present
abbrev pub OpenBytes : (p n a b : ℕ) (cs ws : List ℕ) → Option (List ℕ) → (area : List ℕ) (number : ℕ) (area' : List ℕ) → Type 0
OpenBytes p n a b cs ws ns =
    AreaCall (model_tests p n a b cs ws ns) [] set_bytes (WrittenOver (ShowsColumns (opened p n a b cs ws).present) (λ s. bytes_of set_bytes (whole s)))

-- an edit by its kind, row and column: 2 for the kind, then 8 for the area of the columns present, then as the edit is judged
abbrev pub edit_due : (O : Open) (len kind row column : ℕ) → ℕ
edit_due O len kind row column = first_refusal (kind_tests kind then unless (area_test set_bytes len) area_short then edit_tests O (edit_by kind row column))

-- the words and the bytes afterwards are as they were where it is refused
pub record EditBytes (p n a b : ℕ) (cs words present : List ℕ) (kind row column result : ℕ) (words' present' : List ℕ) : Type 0 where
  pub is_number : result ≡ edit_due (holding_columns p n a b cs (row_numbers words) (number (take set_bytes present))) (length present) kind row column
  pub words_are : words' ≡ where_accepted result (words_done words (edit_by kind row column)) words
  pub present_are : present' ≡ where_accepted result (over (bytes_of set_bytes (columns_done (number (take set_bytes present)) (edit_by kind row column))) present) present

-- the answer to an open model of which the columns of the number w are present: as the question is judged, then 8 for the area
abbrev pub AnswerBytes : (p n a b : ℕ) (cs ws : List ℕ) (w : ℕ) (area : List ℕ) (number : ℕ) (area' : List ℕ) → Type 0
AnswerBytes p n a b cs ws w = AreaCall (answer_tests (holding_columns p n a b cs ws w)) [] answer_length (AnswerWritten (open_model (holding_columns p n a b cs ws w)))

-- a reading: the refusal, and the areas afterwards; some sizes are those of the file, where it is not refused
pub record FileInAreas (s cs ws ks : List ℕ) (refusal : ℕ) (cs' ws' ks' : List ℕ) : Type 0 where
  pub sizes : Result Sizes Refusal
  pub is_refusal : refusal ≡ refusal_of sizes
  pub is_read : FileRead s cs ws ks sizes cs' ws' ks'

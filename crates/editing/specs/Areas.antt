-- Document 02, E5: a model held open in the bytes of an area, for a host in C, and what the calls on it promise. Definitions only.
use Rattle.std.specs.Prelude.{ℕ, ◌+◌, ◌≤◌, ◌≡◌, ◌≢◌, Bool, true, false, length, take, drop}
use mathlib.Core.List.{List, [], ◌++◌, flatten}
use Rattle.std.proofs.Math.Option.{none}
use Rattle.limits.specs.Limits.{most_rows, set_bytes}
use Rattle.columns.specs.Bytes.{number, bytes_of}
use Rattle.columns.specs.Columns.{width, members, word_of}
use Rattle.format.specs.Lists.{over}
use Rattle.format.specs.Refusals.{Tests, unless, ◌then◌, first_refusal, column_beyond}
use Rattle.format.specs.File.Piece.{closed}
use Rattle.format.specs.File.Format.{FileModel, parameter_size, fields, decode, encode, handed_over}
use Rattle.format.specs.File.Unnumbered.{unnumbered_fields, row_start}
use Rattle.layered.specs.Shown.{Answer}
use Rattle.layered.specs.Answers.{RankCall, Refused, Answered}
use Rattle.host.specs.AreaCall.{AreaCall}
use Rattle.open_models.specs.Open.{Open, opened, Edit, take_off, put_back, set_place, clear_place, present_test, own_tests, done, open_model}
use Rattle.editing.specs.Edits.{place_done, columns_done, byte_tests, edit_of}

-- ---- the bytes of an open model

-- those of the columns present, and the unnumbered file of the model
unfoldable pub open_bytes : Open → List ℕ
open_bytes O = bytes_of set_bytes (word_of width O.present) ++ encode (handed_over O.p O.n O.a O.b O.cs O.ws none)

-- the file in an area
unfoldable pub area_file : List ℕ → List ℕ
area_file area = drop set_bytes area

-- a model of a file, with the columns of S present
abbrev pub of_file : FileModel → (ℕ → Bool) → Open
of_file m S = record { p = m.p; n = m.n; a = m.a; b = m.b; cs = flatten m.constants; ws = m.parameters; present = S }

-- what an area holds
unfoldable pub area_open : List ℕ → Open
area_open area = of_file (decode (area_file area)) (members (number (take set_bytes area)))

-- ---- opening

-- the model of a file as it is opened
unfoldable pub file_opened : List ℕ → Open
file_opened s = let m = decode s in opened m.p m.n m.a m.b (flatten m.constants) m.parameters

-- as the file is judged, then 8 for an area that cannot hold the open model; its bytes over the front of the area
abbrev pub OpenAreaCall : (file area : List ℕ) (number : ℕ) (area' : List ℕ) → Type 0
OpenAreaCall s = AreaCall (closed fields s) [] (length (open_bytes (file_opened s))) (λ area area'. area' ≡ over (open_bytes (file_opened s)) area)

-- ---- an edit

-- as the area's file is judged, in which no field of numbers is due; then the bytes of the edit, 1 and 2; then 9, 11 and 14
abbrev pub edit_area_tests : (area bytes : List ℕ) → Tests
edit_area_tests area bs = closed unnumbered_fields (area_file area) then byte_tests bs then own_tests (area_open area) (edit_of bs)

-- the number; where it refuses, the area is as it was; where not, the bytes of what is held after the edit
pub record EditAreaCall (area bytes : List ℕ) (number : ℕ) (area' : List ℕ) : Type 0 where
  pub is_number : number ≡ first_refusal (edit_area_tests area bytes)
  pub if_refused : first_refusal (edit_area_tests area bytes) ≢ 0 → area' ≡ area
  pub if_accepted : first_refusal (edit_area_tests area bytes) ≡ 0 → area' ≡ open_bytes (done (area_open area) (edit_of bytes))

-- ---- the answer

-- as the area's file is judged; then 11 for a column held as present
abbrev pub AnswerAreaCall : (area : List ℕ) → Answer → Type 0
AnswerAreaCall area r =
    RankCall (first_refusal (closed unnumbered_fields (area_file area) then unless (present_test (area_open area)) column_beyond)) r.refusal (Refused r) (Answered (open_model (area_open area)) r)

-- ---- what private functions promise on the way

-- the area with a place of the row there set or cleared
unfoldable pub row_done : (at size : ℕ) → List ℕ → ℕ → Bool → List ℕ
row_done at size area c v = take at area ++ over (bytes_of size (place_done (number (take size (drop at area))) c v)) (drop at area)

-- the area after an edit, of a model of n columns and a constant rows, of which the columns of the number w are present
unfoldable pub bytes_done : (n a w : ℕ) → List ℕ → Edit → List ℕ
bytes_done n a w area (take_off c) = over (bytes_of set_bytes (columns_done w (take_off c))) area
bytes_done n a w area (put_back c) = over (bytes_of set_bytes (columns_done w (put_back c))) area
bytes_done n a w area (set_place r c) = row_done (set_bytes + row_start n a r) (parameter_size n) area c true
bytes_done n a w area (clear_place r c) = row_done (set_bytes + row_start n a r) (parameter_size n) area c false

-- what an edit changes stands within the area
abbrev pub EditRoom : (n a : ℕ) → List ℕ → Edit → Type 0
EditRoom n a area (take_off c) = set_bytes ≤ length area
EditRoom n a area (put_back c) = set_bytes ≤ length area
EditRoom n a area (set_place r c) = (r ≤ most_rows) × (set_bytes + row_start n a r + parameter_size n ≤ length area)
EditRoom n a area (clear_place r c) = (r ≤ most_rows) × (set_bytes + row_start n a r + parameter_size n ≤ length area)

-- Edits as the code has them: what each means (document 02, E5), the numbers and bytes that name one, and what it changes. Definitions only.
use Rattle.std.specs.Prelude.{ℕ, ◌≡◌, Bool, true, false, ◌&&◌, cond, List, [], eqb, leb, length, get_or}
use Rattle.counting.specs.Sets.{Set, set}
use Rattle.columns.specs.Columns.{width, members, none, word_of}
use Rattle.columns.specs.ColumnSets.{row_numbers, with_row}
use Rattle.format.specs.Refusals.{Tests, unless, ◌then◌, first_refusal, where_accepted, truncated, unexpected}
use Rattle.open_models.specs.Open as Open
use Rattle.open_models.specs.Open.{take_off, put_back, set_place, clear_place, row_tests, presence_tests, own_tests, present_done}
use Rattle.editing.specs.declared.edit.Edit.{Edit}
use Rattle.editing.specs.declared.edit.Edit.TheVariants.{TakeOff, PutBack, SetPlace, ClearPlace}
use Rattle.editing.specs.Shown.{NamedEdit}

-- what each of the code's edits means
abbrev pub meant : Edit → Open.Edit
meant (TakeOff c) = take_off c
meant (PutBack c) = put_back c
meant (SetPlace r c) = set_place r c
meant (ClearPlace r c) = clear_place r c

-- ---- judged

-- an open model of which n, b and the columns present are looked at
abbrev pub of_sizes : (n b : ℕ) → Set → Open.Open
of_sizes n b S = record { p = 0; n = n; a = 0; b = b; cs = []; ws = []; present = S }

-- 9, 11 and 14 of an edit, where the columns of the number w are present
unfoldable pub own_refusal : (n b w : ℕ) → Open.Edit → ℕ
own_refusal n b w e = first_refusal (own_tests (of_sizes n b (members w)) e)

-- 9 alone, and 14 alone
unfoldable pub row_refusal : ℕ → Open.Edit → ℕ
row_refusal b e = first_refusal (row_tests (of_sizes 0 b none) e)

unfoldable pub presence_refusal : ℕ → Open.Edit → ℕ
presence_refusal w e = first_refusal (presence_tests (of_sizes 0 0 (members w)) e)

-- ---- what changes

-- the number w with column c set or cleared
unfoldable pub place_done : ℕ → ℕ → Bool → ℕ
place_done w c v = word_of width (set (members w) c v)

-- the number of the columns present
unfoldable pub columns_done : ℕ → Open.Edit → ℕ
columns_done w e = word_of width (present_done (members w) e)

-- the words of the parameter rows
unfoldable pub words_done : List ℕ → Open.Edit → List ℕ
words_done ws (take_off c) = ws
words_done ws (put_back c) = ws
words_done ws (set_place r c) = with_row ws r (place_done (get_or (row_numbers ws) r 0) c true)
words_done ws (clear_place r c) = with_row ws r (place_done (get_or (row_numbers ws) r 0) c false)

-- ---- named by numbers, and by bytes

-- 2: the kind is one of four
abbrev pub kind_tests : ℕ → Tests
kind_tests k = unless (leb 1 k && leb k 4) unexpected

-- kind 1 takes a column off, 2 puts one back, 3 sets a place, 4 clears one; taking off and putting back name no row
unfoldable pub edit_by : (kind row column : ℕ) → Open.Edit
edit_by k r c = cond (eqb k 1) (take_off c) (cond (eqb k 2) (put_back c) (cond (eqb k 3) (set_place r c) (clear_place r c)))

-- where it is refused, the edit given takes column 0 off
pub record EditNamed (kind row column : ℕ) (r : NamedEdit) : Type 0 where
  pub is_refusal : r.refusal ≡ first_refusal (kind_tests kind)
  pub is_edit : meant r.edit ≡ where_accepted (first_refusal (kind_tests kind)) (edit_by kind row column) (take_off 0)

-- how many bytes an edit has: kind, row and column
abbrev pub edit_bytes : ℕ
edit_bytes = 3

-- 1: there are as many; then 2
unfoldable pub byte_tests : List ℕ → Tests
byte_tests bs = unless (leb edit_bytes (length bs)) truncated then kind_tests (get_or bs 0 0)

-- the edit that they name
unfoldable pub edit_of : List ℕ → Open.Edit
edit_of bs = edit_by (get_or bs 0 0) (get_or bs 1 0) (get_or bs 2 0)

pub record EditRead (bs : List ℕ) (r : NamedEdit) : Type 0 where
  pub is_refusal : r.refusal ≡ first_refusal (byte_tests bs)
  pub is_edit : meant r.edit ≡ where_accepted (first_refusal (byte_tests bs)) (edit_of bs) (take_off 0)

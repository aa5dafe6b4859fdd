-- Document 02, E5, "Meters taken off and put back": what is held of an open model, the edits, how each call on it is judged, what is held after a list of
-- edits, and the model that the answer call works out. Definitions only; assumes nothing.
use Rattle.std.specs.Prelude.{ℕ, ◌<◌, ◌^◌, Bool, true, false, not, ◌&&◌, ◌||◌, cond, List, [], ◌∷◌, get_or, set as store, eqb, ltb}
use Rattle.std.proofs.Math.Option.{none}
use Rattle.counting.specs.Sets.{Set, all, set}
use Rattle.columns.specs.Columns.{width, members, word_of}
use Rattle.rank.specs.Modulus.{modulus}
use Rattle.rank.specs.Layered.Model.{Model}
use Rattle.listed_models.specs.ListedModel.{listed_at}
use Rattle.format.specs.Refusals.{Tests, unless, ◌then◌, first_refusal, where_accepted, row_beyond, column_beyond, already_so, row_test, named_column, model_tests}

-- what is held: p, n, a, b and the constants as opened, a word for each parameter row, and the set of columns present
pub record Open : Type 0 where
  pub p : ℕ
  pub n : ℕ
  pub a : ℕ
  pub b : ℕ
  pub cs : List ℕ
  pub ws : List ℕ
  pub present : Set

-- a model as it is opened: all its columns are present. Opening refuses as a rank call does, and holds no parameter numbers
abbrev pub opened : (p n a b : ℕ) (cs ws : List ℕ) → Open
opened p n a b cs ws = record { p = p; n = n; a = a; b = b; cs = cs; ws = ws; present = λ x. ltb x n }

-- the same with other parameter rows and other columns present: an edit changes nothing else
abbrev pub holding : Open → List ℕ → Set → Open
holding O ws S = record { p = O.p; n = O.n; a = O.a; b = O.b; cs = O.cs; ws = ws; present = S }

-- ---- edits

-- an edit takes a column off or puts one back; it sets a place or clears one, named by its row and its column
pub data Edit : Type 0 where
  take_off : ℕ → Edit
  put_back : ℕ → Edit
  set_place : ℕ → ℕ → Edit
  clear_place : ℕ → ℕ → Edit

-- the column that an edit names
unfoldable pub column_of : Edit → ℕ
column_of (take_off c) = c
column_of (put_back c) = c
column_of (set_place r c) = c
column_of (clear_place r c) = c

-- ---- how calls are judged

-- each call first judges the open model as a rank call does: 3, 4, 8, 5, 6
unfoldable pub held_tests : Open → Tests
held_tests O = model_tests O.p O.n O.a O.b O.cs O.ws none

-- 9: the parameter row that an edit names is one of b
unfoldable pub row_tests : Open → Edit → Tests
row_tests O (take_off c) = []
row_tests O (put_back c) = []
row_tests O (set_place r c) = unless (row_test r O.b) row_beyond
row_tests O (clear_place r c) = unless (row_test r O.b) row_beyond

-- 11: each column that is held as present, of those that a set has room for, is below n
unfoldable pub present_test : Open → Bool
present_test O = all width (λ x. not (O.present x) || ltb x O.n)

-- 14: the column to take off is in, the column to put back is out
unfoldable pub presence_tests : Open → Edit → Tests
presence_tests O (take_off c) = unless (O.present c) already_so
presence_tests O (put_back c) = unless (not (O.present c)) already_so
presence_tests O (set_place r c) = []
presence_tests O (clear_place r c) = []

-- the tests that an edit adds: 9, 11 for the column that it names, 11 for those held as present, 14
unfoldable pub own_tests : Open → Edit → Tests
own_tests O e =
    row_tests O e
    then named_column O.n (column_of e)
    then unless (present_test O) column_beyond
    then presence_tests O e

-- the refusal of an edit
unfoldable pub edit_tests : Open → Edit → Tests
edit_tests O e = held_tests O then own_tests O e

unfoldable pub edit_refusal : Open → Edit → ℕ
edit_refusal O e = first_refusal (edit_tests O e)

-- the refusal of a question for the answer, which names no row and no column
unfoldable pub answer_tests : Open → Tests
answer_tests O = held_tests O then unless (present_test O) column_beyond

unfoldable pub answer_refusal : Open → ℕ
answer_refusal O = first_refusal (answer_tests O)

-- ---- what edits do that are not refused

-- the parameter rows with place (r, c) set or cleared
unfoldable pub with_place : List ℕ → (r c : ℕ) → Bool → List ℕ
with_place ws r c v = store ws r (word_of width (set (members (get_or ws r 0)) c v))

-- the parameter rows after an edit: setting and clearing a place change them, whether or not its column is present
unfoldable pub rows_done : List ℕ → Edit → List ℕ
rows_done ws (take_off c) = ws
rows_done ws (put_back c) = ws
rows_done ws (set_place r c) = with_place ws r c true
rows_done ws (clear_place r c) = with_place ws r c false

-- the columns present after an edit: taking off and putting back change them
unfoldable pub present_done : Set → Edit → Set
present_done S (take_off c) = set S c false
present_done S (put_back c) = set S c true
present_done S (set_place r c) = S
present_done S (clear_place r c) = S

-- what is held after an edit that is not refused
unfoldable pub done : Open → Edit → Open
done O e = holding O (rows_done O.ws e) (present_done O.present e)

-- ---- what is held afterwards

-- after an edit: a refused edit changes nothing
unfoldable pub after : Open → Edit → Open
after O e = where_accepted (edit_refusal O e) (done O e) O

-- after a list of edits, each of which works on what the last one left
unfoldable pub after_edits : Open → List Edit → Open
after_edits O [] = O
after_edits O (e ∷ l) = after_edits (after O e) l

-- the edits of a list that are not refused
unfoldable pub accepted_edits : Open → List Edit → List Edit
accepted_edits O [] = []
accepted_edits O (e ∷ l) = where_accepted (edit_refusal O e) (e ∷ accepted_edits (after O e) l) (accepted_edits (after O e) l)

-- the parameter rows after a list, by the edits that set and clear places alone
unfoldable pub rows_after : List ℕ → List Edit → List ℕ
rows_after ws [] = ws
rows_after ws (e ∷ l) = rows_after (rows_done ws e) l

-- the columns present after a list, by the edits that take off and put back alone
unfoldable pub present_after : Set → List Edit → Set
present_after S [] = S
present_after S (e ∷ l) = present_after (present_done S e) l

-- one place after an edit and after a list: the last edit that names it decides, and else it is as it was
unfoldable pub place_done : (r x : ℕ) → Bool → Edit → Bool
place_done r x v (take_off c) = v
place_done r x v (put_back c) = v
place_done r x v (set_place q c) = cond (eqb r q && eqb x c) true v
place_done r x v (clear_place q c) = cond (eqb r q && eqb x c) false v

unfoldable pub place_after : (r x : ℕ) → Bool → List Edit → Bool
place_after r x v [] = v
place_after r x v (e ∷ l) = place_after r x (place_done r x v e) l

-- one column, present or out, after an edit and after a list: likewise
unfoldable pub column_done : (x : ℕ) → Bool → Edit → Bool
column_done x v (take_off c) = cond (eqb x c) false v
column_done x v (put_back c) = cond (eqb x c) true v
column_done x v (set_place r c) = v
column_done x v (clear_place r c) = v

unfoldable pub column_after : (x : ℕ) → Bool → List Edit → Bool
column_after x v [] = v
column_after x v (e ∷ l) = column_after x (column_done x v e) l

-- ---- the answer

-- the model worked out afresh over the columns present, under their numbers as opened: they are the offered columns, and the definitions of rank, placed
-- set, short set and verdict go by them
abbrev pub open_model : Open → Model
open_model O = listed_at (modulus O.p).0 (modulus O.p).1 O.n O.a O.b O.cs O.ws O.present

-- every parameter row is a word
pub record AreWords (ws : List ℕ) : Type 0 where
  pub below : (r : ℕ) → get_or ws r 0 < 2 ^ width

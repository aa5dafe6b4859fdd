-- Document 02, E5: what the calls on an open model promise that is handed over: opening, an edit, and the answer. Definitions only.
use Rattle.std.specs.Prelude.{ℕ, ◌≡◌, List}
use Rattle.std.proofs.Math.Option.{Option}
use Rattle.counting.specs.Sets.{Set}
use Rattle.columns.specs.Columns.{width, members, word_of}
use Rattle.columns.specs.ColumnSets.{whole, empty_set, row_numbers}
use Rattle.columns.specs.declared.ColumnSet.{ColumnSet}
use Rattle.models.specs.Lent.{constants_lent, rows_lent, numbers_lent}
use Rattle.models.specs.declared.LentModel.{LentModel}
use Rattle.format.specs.Refusals.{where_accepted, refusal}
use Rattle.layered.specs.Shown.{Answer}
use Rattle.layered.specs.Answers.{RankCall, Refused, Answered}
use Rattle.open_models.specs.Open.{Open, opened, edit_refusal, answer_refusal, after, open_model}
use Rattle.editing.specs.Edits.{meant, words_done}
use Rattle.editing.specs.Shown.{Held}
use Rattle.editing.specs.declared.edit.Edit.{Edit}

-- what is held, with the columns of a set present
abbrev pub held : (p n a b : ℕ) (cs ws : List ℕ) → ColumnSet → Open
held p n a b cs ws s = record { p = p; n = n; a = a; b = b; cs = cs; ws = ws; present = members (whole s) }

-- the set has the columns of S and no others, and its number is theirs
pub record ShowsColumns (S : Set) (s : ColumnSet) : Type 0 where
  pub is_number : whole s ≡ word_of width S
  pub columns : (x : ℕ) → members (whole s) x ≡ S x

-- opening: refused as a rank call is, with no column; accepted, all columns are present
abbrev pub OpenCall : (p n a b : ℕ) (cs ws : List ℕ) → Option (List ℕ) → Held → Type 0
OpenCall p n a b cs ws ns r = RankCall (refusal p n a b cs ws ns) r.refusal (r.present ≡ empty_set) (ShowsColumns (opened p n a b cs ws).present r.present)

-- an edit: its refusal; the words of the parameter rows, in their area, and the columns present afterwards, which are as they were where it is refused
pub record EditCall (p n a b : ℕ) (cs words : List ℕ) (s : ColumnSet) (e : Edit) (r : Held) (words' : List ℕ) : Type 0 where
  pub is_refusal : r.refusal ≡ edit_refusal (held p n a b cs (row_numbers words) s) (meant e)
  pub words_are : words' ≡ where_accepted (edit_refusal (held p n a b cs (row_numbers words) s) (meant e)) (words_done words (meant e)) words
  pub rows_are : row_numbers words' ≡ (after (held p n a b cs (row_numbers words) s) (meant e)).ws
  pub present_are : ShowsColumns (after (held p n a b cs (row_numbers words) s) (meant e)).present r.present

-- the answer: that of the model over the columns present
abbrev pub AnswerCall : (p n a b : ℕ) (cs ws : List ℕ) → ColumnSet → Answer → Type 0
AnswerCall p n a b cs ws s r = RankCall (answer_refusal (held p n a b cs ws s)) r.refusal (Refused r) (Answered (open_model (held p n a b cs ws s)) r)

-- opening and the answer, of a model that is lent
abbrev pub OpenModelCall : LentModel → Held → Type 0
OpenModelCall m r = OpenCall m.p m.n m.a m.b (constants_lent m) (rows_lent m) (numbers_lent m) r

abbrev pub AnswerModelCall : LentModel → ColumnSet → Answer → Type 0
AnswerModelCall m s r = AnswerCall m.p m.n m.a m.b (constants_lent m) (rows_lent m) s r

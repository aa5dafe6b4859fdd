-- What the mixed rank call promises, for a model handed over and for the model in a file. Definitions only.
use Rattle.std.specs.Prelude.{ℕ, ◌<◌, ◌≡◌}
use mathlib.Core.List.{List, flatten}
use Rattle.std.proofs.Math.Option.{Option}
use Rattle.counting.specs.Sets.{◌∈◌}
use Rattle.columns.specs.Columns.{width, members, word_of}
use Rattle.columns.specs.ColumnSets.{whole, empty_set}
use Rattle.rank.specs.Layered.Rank.{short}
use Rattle.mixed_models.specs.Mixed.{Mixed, mixed_sum, mixed_rank, mixed_verdict, layered_form, mixed}
use Rattle.models.specs.Lent.{constants_lent, rows_lent, numbers_lent}
use Rattle.models.specs.declared.LentModel.{LentModel}
use Rattle.format.specs.Refusals.{Tests, unless, ◌then◌, first_refusal, not_mixed, mixed_test, mixed_refusal}
use Rattle.format.specs.File.Piece.{closed}
use Rattle.format.specs.File.Format.{fields, decode}
use Rattle.layered.specs.Answers.{RankCall}
use Rattle.mixed.specs.Shown.{MixedAnswer}

-- a refusal has every other number 0 and every set empty
pub record MixedRefused (r : MixedAnswer) : Type 0 where
  pub no_verdict : r.verdict ≡ 0
  pub no_rank : r.rank ≡ 0
  pub no_rows : r.rows ≡ empty_set
  pub no_columns : r.columns ≡ empty_set
  pub none_short : r.short ≡ empty_set

-- the answer to an accepted mixed model. Which rows I and columns J it shows is left open: they are rows and columns of the model and reach the rank,
-- and this is all that holds of them.
pub record MixedAnswered (X : Mixed) (r : MixedAnswer) : Type 0 where
  pub is_verdict : r.verdict ≡ mixed_verdict X
  pub is_rank : r.rank ≡ mixed_rank X
  pub rows_below : (i : ℕ) → i ∈ members (whole r.rows) → i < X.m
  pub columns_below : (x : ℕ) → x ∈ members (whole r.columns) → x < X.n
  pub they_reach : mixed_sum X (members (whole r.rows)) (members (whole r.columns)) ≡ mixed_rank X
  pub short_number : whole r.short ≡ word_of width (short (layered_form X))

-- the mixed rank call for a model handed over; its parameters' numbers are judged, and the answer is that of the model without them
abbrev pub MixedCall : (p n a b : ℕ) (cs ws : List ℕ) → Option (List ℕ) → MixedAnswer → Type 0
MixedCall p n a b cs ws ns r = RankCall (mixed_refusal p n a b cs ws ns) r.refusal (MixedRefused r) (MixedAnswered (mixed p a n cs ws) r)

-- the same of a model that is lent: the refusal due, and the call
abbrev pub mixed_model_refusal : LentModel → ℕ
mixed_model_refusal m = mixed_refusal m.p m.n m.a m.b (constants_lent m) (rows_lent m) (numbers_lent m)

abbrev pub MixedModelCall : LentModel → MixedAnswer → Type 0
MixedModelCall m r = MixedCall m.p m.n m.a m.b (constants_lent m) (rows_lent m) (numbers_lent m) r

-- ---- the model in a file

-- the mixed model of the numbers, constants and parameter rows that the file has
abbrev pub file_mixed : List ℕ → Mixed
file_mixed s = mixed (decode s).p (decode s).a (decode s).n (flatten (decode s).constants) (decode s).parameters

-- what a mixed question asks of a file that is accepted
abbrev pub mixed_question : List ℕ → Tests
mixed_question s = unless (mixed_test (decode s).n (decode s).a (decode s).b) not_mixed

-- the call: the file's own numbers, then 10
abbrev pub MixedFileCall : (file : List ℕ) → MixedAnswer → Type 0
MixedFileCall file r = RankCall (first_refusal (closed fields file then mixed_question file)) r.refusal (MixedRefused r) (MixedAnswered (file_mixed file) r)

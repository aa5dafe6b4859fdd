-- Document 02, E2: what the call about the reason for an unplaced column promises, for a model handed over and for the model in a file. Definitions only.
use Rattle.std.specs.Prelude.{ℕ, ◌≡◌, Bool, true, false, not, replicate}
use mathlib.Core.List.{List, flatten}
use Rattle.std.proofs.Math.Option.{Option}
use Rattle.limits.specs.Limits.{most_columns}
use Rattle.columns.specs.Columns.{width, members, word_of}
use Rattle.columns.specs.ColumnSets.{whole, empty_set}
use Rattle.rank.specs.Modulus.{modulus, field_of}
use Rattle.listed_models.specs.ModelModulo.{model_modulo}
use Rattle.rank.specs.ListedModel.{constant_at, parameter_at}
use Rattle.listed_models.specs.ListedModel.{listed_model}
use Rattle.rank.specs.Layered.Model.{Model}
use Rattle.rank.specs.Layered.Rank.{placed}
use Rattle.dependence.specs.Listing.{listing}
use Rattle.blocking.specs.Reason.{reason, untouched, reason_multiplier}
use Rattle.models.specs.Lent.{constants_lent, rows_lent, numbers_lent}
use Rattle.models.specs.declared.LentModel.{LentModel}
use Rattle.format.specs.Refusals.{Tests, unless, ◌then◌, first_refusal, column_placed, named_column, model_tests}
use Rattle.format.specs.File.Piece.{closed}
use Rattle.format.specs.File.Format.{fields, decode}
use Rattle.layered.specs.Answers.{RankCall}
use Rattle.layered.specs.FileModel.{file_model}
use Rattle.reason.specs.Shown.{Reason}

-- what the question asks of column x: 11 where it is n or more, then 12 where it is placed
abbrev pub reason_question : Model → ℕ → Tests
reason_question M x = named_column M.n x then unless (not (placed M x)) column_placed

-- a refusal has the empty set and no multipliers
pub record ReasonRefused (r : Reason) : Type 0 where
  pub no_set : r.set ≡ empty_set
  pub not_given : r.given ≡ false
  pub no_multipliers : r.multipliers ≡ replicate most_columns 0

-- the model modulo p of n columns, a rows of the constants Q and b rows of the parameters T, with all columns offered
abbrev pub all_offered : (p n a b : ℕ) → (ℕ → ℕ → (field_of p).F) → (ℕ → ℕ → Bool) → Model
all_offered p n a b Q T = model_modulo (modulus p).0 (modulus p).1 n a b Q T (λ y. true)

-- the answer: the set is the reason for column x; multipliers are given where no parameter row touches it, and are 0 where they are not
pub record ReasonShown (p n a b : ℕ) (Q : ℕ → ℕ → (field_of p).F) (T : ℕ → ℕ → Bool) (x : ℕ) (r : Reason) : Type 0 where
  pub set_number : whole r.set ≡ word_of width (reason (all_offered p n a b Q T) x)
  pub set_is : (y : ℕ) → members (whole r.set) y ≡ reason (all_offered p n a b Q T) x y
  pub is_given : r.given ≡ untouched (all_offered p n a b Q T) (reason (all_offered p n a b Q T) x)
  pub multipliers_are : r.multipliers ≡ listing most_columns (reason_multiplier (modulus p).0 (modulus p).1 n a b Q T (λ y. true) x)

-- the same over constants and parameter rows in lists
abbrev pub ReasonAnswered : (p n a b : ℕ) (cs ws : List ℕ) (x : ℕ) → Reason → Type 0
ReasonAnswered p n a b cs ws = ReasonShown p n a b (constant_at (modulus p).0 (modulus p).1 n cs) (parameter_at ws)

-- the question about a model that is judged
abbrev pub ReasonAsked : (p n a b : ℕ) (cs ws : List ℕ) (x : ℕ) → Reason → Type 0
ReasonAsked p n a b cs ws x r = RankCall (first_refusal (reason_question (listed_model p n a b cs ws) x)) r.refusal (ReasonRefused r) (ReasonAnswered p n a b cs ws x r)

-- the call for a model handed over: judged as a rank call is, then 11, then 12
abbrev pub ReasonCall : (p n a b : ℕ) (cs ws : List ℕ) → Option (List ℕ) → (x : ℕ) → Reason → Type 0
ReasonCall p n a b cs ws ns x r =
    RankCall (first_refusal (model_tests p n a b cs ws ns then reason_question (listed_model p n a b cs ws) x)) r.refusal (ReasonRefused r) (ReasonAnswered p n a b cs ws x r)

-- the same of a model that is lent
abbrev pub ReasonModelCall : LentModel → (x : ℕ) → Reason → Type 0
ReasonModelCall m x r = ReasonCall m.p m.n m.a m.b (constants_lent m) (rows_lent m) (numbers_lent m) x r

-- ---- the model in a file

-- the answer over the file's model
abbrev pub FileReason : (file : List ℕ) (x : ℕ) → Reason → Type 0
FileReason s = ReasonAnswered (decode s).p (decode s).n (decode s).a (decode s).b (flatten (decode s).constants) (decode s).parameters

-- the call: the file's own numbers, then 11, then 12
abbrev pub ReasonFileCall : (file : List ℕ) (x : ℕ) → Reason → Type 0
ReasonFileCall file x r = RankCall (first_refusal (closed fields file then reason_question (file_model file) x)) r.refusal (ReasonRefused r) (FileReason file x r)

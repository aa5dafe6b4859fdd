-- Document 02, E1: what the call about multipliers promises, for a model handed over and for the model in a file. Definitions only.
use Rattle.std.specs.Prelude.{ℕ, ◌≡◌, replicate}
use mathlib.Core.List.{List, flatten}
use Rattle.std.proofs.Math.Option.{Option}
use Rattle.limits.specs.Limits.{most_columns}
use Rattle.counting.specs.Sets.{Set}
use Rattle.columns.specs.Columns.{members}
use Rattle.columns.specs.ColumnSets.{whole}
use Rattle.columns.specs.declared.ColumnSet.{ColumnSet}
use Rattle.exchange.specs.DependenceCall.{ListedDependenceShown}
use Rattle.models.specs.Lent.{constants_lent, rows_lent, numbers_lent}
use Rattle.models.specs.declared.LentModel.{LentModel}
use Rattle.format.specs.Refusals.{Tests, ◌then◌, first_refusal, named_column, held_columns, model_tests}
use Rattle.format.specs.File.Piece.{closed}
use Rattle.format.specs.File.Format.{fields, decode}
use Rattle.layered.specs.Answers.{RankCall}
use Rattle.multipliers.specs.Shown.{Multipliers}

-- what the question asks of n columns: 11 where the named column x, or one of the set with the number held, is n or more
abbrev pub column_question : (n held x : ℕ) → Tests
column_question n held x = named_column n x then held_columns n held

-- a refusal has the outcome 0, and 0 for each multiplier
pub record MultipliersRefused (r : Multipliers) : Type 0 where
  pub no_outcome : r.outcome ≡ 0
  pub no_multipliers : r.multipliers ≡ replicate most_columns 0

-- the answer: how column x depends on the columns in H, over the constants cs of a rows and n columns modulo p. `outcome` and `given` of the crate
-- dependence say what its numbers are.
abbrev pub MultipliersAnswered : (p n a : ℕ) (cs : List ℕ) (H : Set) (x : ℕ) (r : Multipliers) → Type 0
MultipliersAnswered p n a cs H x r = ListedDependenceShown p n a cs H x r.outcome r.multipliers

-- the question about a model that is judged
abbrev pub Asked : (p n a : ℕ) (cs : List ℕ) (held : ColumnSet) (x : ℕ) → Multipliers → Type 0
Asked p n a cs held x r = RankCall (first_refusal (column_question n (whole held) x)) r.refusal (MultipliersRefused r) (MultipliersAnswered p n a cs (members (whole held)) x r)

-- the call for a model handed over: judged as a rank call is, then 11
abbrev pub MultipliersCall : (p n a b : ℕ) (cs ws : List ℕ) → Option (List ℕ) → (held : ColumnSet) (x : ℕ) → Multipliers → Type 0
MultipliersCall p n a b cs ws ns held x r =
    RankCall (first_refusal (model_tests p n a b cs ws ns then column_question n (whole held) x)) r.refusal (MultipliersRefused r) (MultipliersAnswered p n a cs (members (whole held)) x r)

-- the same of a model that is lent
abbrev pub MultipliersModelCall : LentModel → (held : ColumnSet) (x : ℕ) → Multipliers → Type 0
MultipliersModelCall m held x r = MultipliersCall m.p m.n m.a m.b (constants_lent m) (rows_lent m) (numbers_lent m) held x r

-- ---- the model in a file

-- the answer over the file's constants
abbrev pub FileAnswered : (file : List ℕ) (H : Set) (x : ℕ) → Multipliers → Type 0
FileAnswered s = MultipliersAnswered (decode s).p (decode s).n (decode s).a (flatten (decode s).constants)

-- the call: the file's own numbers, then 11
abbrev pub MultipliersFileCall : (file : List ℕ) (held : ColumnSet) (x : ℕ) → Multipliers → Type 0
MultipliersFileCall file held x r =
    RankCall (first_refusal (closed fields file then column_question (decode file).n (whole held) x)) r.refusal (MultipliersRefused r) (FileAnswered file (members (whole held)) x r)

-- What the layered rank call promises: each number and each set of its answer, refused or accepted. Definitions only.
use Rattle.std.specs.Prelude.{ℕ, ◌<◌, ◌≡◌, ◌≢◌, List, length, replicate}
use Rattle.std.proofs.Math.Option.{Option, none}
use Rattle.limits.specs.Limits.{most_rows, no_column}
use Rattle.counting.specs.Sets.{Set}
use Rattle.columns.specs.Columns.{width, members, word_of}
use Rattle.columns.specs.ColumnSets.{whole, empty_set}
use Rattle.rank.specs.Layered.Model.{Model}
use Rattle.rank.specs.Layered.Rank.{placed, short, verdict}
use Rattle.exchange.specs.Solution.{Solved}
use Rattle.rank.specs.Modulus.{modulus}
use Rattle.listed_models.specs.ListedModel.{listed_at, listed_model}
use Rattle.rank.specs.Steps.{Demand3}
use Rattle.models.specs.Lent.{constants_lent, rows_lent, numbers_lent}
use Rattle.models.specs.declared.LentModel.{LentModel}
use Rattle.format.specs.Refusals.{◌then◌, first_refusal, held_columns, model_tests, refusal}
use Rattle.format.specs.File.Format.{judge}
use Rattle.layered.specs.FileModel.{file_model}
use Rattle.layered.specs.Shown.{Answer}

-- a refusal has every other number 0, every set empty and no row with a column
pub record Refused (r : Answer) : Type 0 where
  pub no_verdict : r.verdict ≡ 0
  pub no_rank : r.rank ≡ 0
  pub none_placed : r.placed ≡ empty_set
  pub none_on_the_side : r.constants ≡ empty_set
  pub none_short : r.short ≡ empty_set
  pub no_columns : r.rows ≡ replicate most_rows no_column

-- the answer to an accepted model: verdict, rank, the numbers of the placed set and of the short set are those of the definitions, the assignment shown
-- is legal and places the placed set (`Solved`), and demand 3 holds of the rank and the short set that are reported
pub record Answered (M : Model) (r : Answer) : Type 0 where
  pub is_verdict : r.verdict ≡ verdict M
  pub placed_number : whole r.placed ≡ word_of width (placed M)
  pub short_number : whole r.short ≡ word_of width (short M)
  pub row_count : length r.rows ≡ most_rows
  pub solved : Solved M r.rank (members (whole r.placed)) (members (whole r.constants)) (members (whole r.short)) r.rows
  pub demand : Demand3 M r.rank (members (whole r.short))

-- some answer of which this holds is shown so, in bytes or as text
pub record AnswerShown {A : Type 0} (Holds Shows : A → Type 0) : Type 0 where
  pub answer : A
  pub is_answer : Holds answer
  pub is_shown : Shows answer

-- a rank call: the refusal given is the one due, and what then holds of the answer
pub record RankCall (due given : ℕ) (IfRefused IfAccepted : Type 0) : Type 0 where
  pub is_refusal : given ≡ due
  pub if_refused : due ≢ 0 → IfRefused
  pub if_accepted : due ≡ 0 → IfAccepted

-- the layered rank call for a model handed over; its parameters' numbers are judged, and the answer is that of the model without them
abbrev pub LayeredCall : (p n a b : ℕ) (cs ws : List ℕ) → Option (List ℕ) → Answer → Type 0
LayeredCall p n a b cs ws ns r = RankCall (refusal p n a b cs ws ns) r.refusal (Refused r) (Answered (listed_model p n a b cs ws) r)

-- the same for the model in a file
abbrev pub LayeredFileCall : (file : List ℕ) → Answer → Type 0
LayeredFileCall file r = RankCall (judge file) r.refusal (Refused r) (Answered (file_model file) r)

-- the same over some of the columns, those of the set with the number `offered`: judged as an unnumbered model is, then 11 for a column of the set that the
-- model does not have; the answer is that of every model of these numbers that offers these columns below n and no others
unfoldable pub offered_refusal : (p n a b offered : ℕ) (cs ws : List ℕ) → ℕ
offered_refusal p n a b offered cs ws = first_refusal (model_tests p n a b cs ws none then held_columns n offered)

pub record OfferedAnswered (p n a b offered : ℕ) (cs ws : List ℕ) (r : Answer) : Type 0 where
  pub over : (E : Set) → ((x : ℕ) → x < n → E x ≡ members offered x) → Answered (listed_at (modulus p).0 (modulus p).1 n a b cs ws E) r

abbrev pub OfferedCall : (p n a b offered : ℕ) (cs ws : List ℕ) → Answer → Type 0
OfferedCall p n a b offered cs ws r = RankCall (offered_refusal p n a b offered cs ws) r.refusal (Refused r) (OfferedAnswered p n a b offered cs ws r)

-- ---- the same of a model that is lent

abbrev pub LayeredModelCall : LentModel → Answer → Type 0
LayeredModelCall m r = LayeredCall m.p m.n m.a m.b (constants_lent m) (rows_lent m) (numbers_lent m) r

-- without its numbers
abbrev pub UnnumberedModelCall : LentModel → Answer → Type 0
UnnumberedModelCall m r = LayeredCall m.p m.n m.a m.b (constants_lent m) (rows_lent m) none r

-- without its numbers, over some of the columns
abbrev pub offered_model_refusal : LentModel → (offered : ℕ) → ℕ
offered_model_refusal m offered = offered_refusal m.p m.n m.a m.b offered (constants_lent m) (rows_lent m)

abbrev pub OfferedModelCall : LentModel → (offered : ℕ) → Answer → Type 0
OfferedModelCall m offered r = OfferedCall m.p m.n m.a m.b offered (constants_lent m) (rows_lent m) r

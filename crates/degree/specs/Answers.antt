-- Document 02, E14: what the call about the degree promises, for a model handed over and for the model in a file. Definitions only.
use Rattle.std.specs.Prelude.{ℕ, ◌*◌, ◌≤◌, ◌<◌, ◌≡◌, Bool, not, ◌&&◌, ◌||◌, List, eqb, leb, length, get_or, replicate}
use Rattle.std.proofs.Math.Option.{Option}
use Rattle.limits.specs.Limits.{most_rows, no_column}
use Rattle.counting.specs.Sets.{all}
use Rattle.columns.specs.Columns.{members}
use Rattle.columns.specs.ColumnSets.{whole, empty_set}
use Rattle.listed_models.specs.ListedModel.{listed_model}
use Rattle.rank.specs.Layered.Model.{Model, Assignment, Legal, constants}
use Rattle.rank.specs.Layered.Rank.{verdict}
use Rattle.degrees.specs.Degrees.{Powers, AllPlaced, degree, listed_powers, weight}
use Rattle.exchange.specs.Solution.{ShowsRow, shown}
use Rattle.models.specs.Lent.{constants_lent, rows_lent, numbers_lent}
use Rattle.models.specs.declared.LentModel.{LentModel}
use Rattle.format.specs.Refusals.{Tests, unless, ◌then◌, first_refusal, area_short, no_degree, area_test, area_tests, content_tests}
use Rattle.format.specs.File.Piece.{closed}
use Rattle.format.specs.File.Format.{fields, decode}
use Rattle.layered.specs.Answers.{RankCall}
use Rattle.layered.specs.FileModel.{file_model}
use Rattle.degree.specs.Shown.{Degree}

-- ---- the refusals

-- the largest power
abbrev pub most_power : ℕ
most_power = 15

-- no power that is read is above the largest: of the constant rows, of the columns, and of the parameters
unfoldable pub powers_low : Model → Powers → Bool
powers_low M W =
    all M.a (λ h. leb (W.row_power h) most_power)
    && all M.n (λ x. leb (W.column_power x) most_power)
    && all M.b (λ r. all M.n (λ x. not (M.T r x) || leb (W.power r x) most_power))

-- 16: the verdict is 1, and no power is above the largest
abbrev pub degree_question : Model → Powers → Tests
degree_question M W = unless (eqb (verdict M) 1 && powers_low M W) no_degree

-- 8: the areas of powers hold one for each constant row, each column, and each place of a parameter row
abbrev pub power_areas : (n a b : ℕ) (rp cp pp : List ℕ) → Tests
power_areas n a b rp cp pp =
    unless (area_test a (length rp)) area_short then unless (area_test n (length cp)) area_short then unless (area_test (b * n) (length pp)) area_short

-- what is asked of a model handed over: its areas and those of the powers, what stands in its own, and then 16
abbrev pub dynamic_tests : (p n a b : ℕ) (cs ws : List ℕ) → Option (List ℕ) → (rp cp pp : List ℕ) → Tests
dynamic_tests p n a b cs ws ns rp cp pp =
    area_tests p n a b cs ws ns
    then power_areas n a b rp cp pp
    then content_tests p n a b cs ws ns
    then degree_question (listed_model p n a b cs ws) (listed_powers n rp cp pp)

-- what is asked beside a file: 8 for the areas of powers, then 16
abbrev pub file_question : (file rp cp pp : List ℕ) → Tests
file_question file rp cp pp =
    power_areas (decode file).n (decode file).a (decode file).b rp cp pp then degree_question (file_model file) (listed_powers (decode file).n rp cp pp)

-- ---- the answer

-- a refusal has degree 0, and no column on the side or on a row
pub record DegreeRefused (r : Degree) : Type 0 where
  pub no_degree : r.degree ≡ 0
  pub none_on_the_side : r.constants ≡ empty_set
  pub no_columns : r.rows ≡ replicate most_rows no_column

-- the assignment that an answer shows
abbrev pub assignment : Model → Degree → Assignment
assignment M r = shown M.n M.b (members (whole r.constants)) r.rows

-- the answer: the degree is that of the definition; the assignment is legal, places all columns, and its total is the degree. Which of these it is, is left
-- open, and this is all that holds of it. The side and the rows show nothing else
pub record DegreeAnswered (M : Model) (W : Powers) (r : Degree) : Type 0 where
  pub is_degree : r.degree ≡ degree M W
  pub is_legal : Legal M (assignment M r)
  pub places_all : AllPlaced M (assignment M r)
  pub reaches : weight M W (assignment M r) ≡ degree M W
  pub side_shown : (x : ℕ) → members (whole r.constants) x ≡ constants (assignment M r) x
  pub rows_shown : (i : ℕ) → i < M.b → ShowsRow M.n M.b (members (whole r.constants)) r.rows i
  pub past_rows : (i : ℕ) → M.b ≤ i → i < most_rows → get_or r.rows i 0 ≡ no_column
  pub row_count : length r.rows ≡ most_rows

-- ---- the calls

-- for a model that is judged, with its areas of powers
abbrev pub DegreeAsked : Model → Powers → Degree → Type 0
DegreeAsked M W r = RankCall (first_refusal (degree_question M W)) r.refusal (DegreeRefused r) (DegreeAnswered M W r)

-- for a model handed over
abbrev pub DegreeCall : (p n a b : ℕ) (cs ws : List ℕ) → Option (List ℕ) → (rp cp pp : List ℕ) → Degree → Type 0
DegreeCall p n a b cs ws ns rp cp pp r =
    RankCall (first_refusal (dynamic_tests p n a b cs ws ns rp cp pp)) r.refusal (DegreeRefused r) (DegreeAnswered (listed_model p n a b cs ws) (listed_powers n rp cp pp) r)

-- for a model that is lent
abbrev pub DegreeModelCall : LentModel → (rp cp pp : List ℕ) → Degree → Type 0
DegreeModelCall m rp cp pp r = DegreeCall m.p m.n m.a m.b (constants_lent m) (rows_lent m) (numbers_lent m) rp cp pp r

-- for the model in a file
abbrev pub DegreeFileCall : (file rp cp pp : List ℕ) → Degree → Type 0
DegreeFileCall file rp cp pp r =
    RankCall (first_refusal (closed fields file then file_question file rp cp pp)) r.refusal (DegreeRefused r)
    (DegreeAnswered (file_model file) (listed_powers (decode file).n rp cp pp) r)

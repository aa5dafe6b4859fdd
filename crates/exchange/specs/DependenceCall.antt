-- What the call `column_dependence` promises. Definitions only.
use Rattle.std.specs.Prelude.{ℕ, ◌≡◌, Bool, true, false, ◌&&◌, List, [], replicate, ltb, Option, MatchOption}
use Rattle.limits.specs.Limits.{most_columns}
use Rattle.counting.specs.Sets.{Set}
use Rattle.columns.specs.Columns.{members}
use Rattle.columns.specs.ColumnSets.{whole}
use Rattle.columns.specs.declared.ColumnSet.{ColumnSet}
use Rattle.rank.specs.Modulus.{modulus, field_of}
use Rattle.rank.specs.ListedModel.{constant_at}
use Rattle.dependence.specs.Multipliers.{outcome, given}
use Rattle.dependence.specs.Listing.{listing}
use Rattle.exchange.specs.Solve.{admissible}
use Rattle.models.specs.declared.LentModel.{LentModel}
use Rattle.models.specs.Lent.{constants_lent}
use Rattle.exchange.specs.declared.Dependence.{Dependence}
use Rattle.exchange.specs.declared.Dependence.TheVariants.{Independent, DependsOn, HeldDependent}

-- the call takes the constants: as the solver does without parameter rows, and column x is below n
unfoldable pub askable : (p n a held x : ℕ) (cs : List ℕ) → Bool
askable p n a held x cs = admissible p n a 0 held cs [] && ltb x n

-- document 01's number of each outcome, and its multipliers, which are 0 where none are given
abbrev pub outcome_of : Dependence → ℕ
outcome_of Independent = 0
outcome_of (DependsOn ms) = 1
outcome_of HeldDependent = 2

abbrev pub multipliers_of : Dependence → List ℕ
multipliers_of Independent = replicate most_columns 0
multipliers_of (DependsOn ms) = ms
multipliers_of HeldDependent = replicate most_columns 0

-- these numbers say how column x depends on the columns in H, over the constants Q modulo p: the outcome, and a multiplier for each column that a model may
-- have
pub record DependenceShown (p n a : ℕ) (Q : ℕ → ℕ → (field_of p).F) (H : Set) (x : ℕ) (the-outcome : ℕ) (the-multipliers : List ℕ) : Type 0 where
  pub outcome_is : the-outcome ≡ outcome (modulus p).0 (modulus p).1 a n Q H x
  pub multipliers_are : the-multipliers ≡ listing most_columns (given (modulus p).0 (modulus p).1 a n Q H x)

-- the same over the constants in a list, row by row
abbrev pub ListedDependenceShown : (p n a : ℕ) (cs : List ℕ) (H : Set) (x : ℕ) (the-outcome : ℕ) (the-multipliers : List ℕ) → Type 0
ListedDependenceShown p n a cs = DependenceShown p n a (constant_at (modulus p).0 (modulus p).1 n cs)

-- what the call gives about these constants: they can be asked about, and it says how x depends on the held columns
pub record DependenceAnswers (p n a : ℕ) (held : ColumnSet) (x : ℕ) (cs : List ℕ) (d : Dependence) : Type 0 where
  pub is_askable : askable p n a (whole held) x cs ≡ true
  pub is_shown : ListedDependenceShown p n a cs (members (whole held)) x (outcome_of d) (multipliers_of d)

-- what the call gives: none where the constants cannot be asked about; and what it gives is an answer
abbrev pub DependenceCall : LentModel → ColumnSet → ℕ → Option Dependence → Type 0
DependenceCall m held x r = MatchOption r (askable m.p m.n m.a (whole held) x (constants_lent m) ≡ false) (λ d. DependenceAnswers m.p m.n m.a held x (constants_lent m) d)

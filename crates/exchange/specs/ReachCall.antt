-- What the call `column_reach` promises. Definitions only.
use Rattle.std.specs.Prelude.{ℕ, ◌≡◌, Bool, true, false, List, Option, MatchOption}
use Rattle.counting.specs.Sets.{Set}
use Rattle.columns.specs.ColumnSets.{whole}
use Rattle.columns.specs.declared.ColumnSet.{ColumnSet}
use Rattle.rank.specs.Modulus.{modulus, field_of}
use Rattle.listed_models.specs.ModelModulo.{model_modulo}
use Rattle.rank.specs.Layered.Model.{Model}
use Rattle.relation.specs.Relations.{row_of}
use Rattle.listings.specs.Blocks.{earlier}
use Rattle.models.specs.declared.LentModel.{LentModel}
use Rattle.models.specs.Lent.{constants_lent, rows_lent}
use Rattle.exchange.specs.Solve.{admissible, admits, Shown}

-- the rows show, of each column, those that share its block in M or must come before it
abbrev pub ReachShown : Model → List ℕ → Type 0
ReachShown M rows = (x y : ℕ) → row_of rows x y ≡ earlier M x y

-- what reaches each column in the model of these numbers: it is admissible, and the rows show those of every model that they show
pub record ReachAnswers (p n a b offered : ℕ) (cs ws rows : List ℕ) : Type 0 where
  pub is_admissible : admissible p n a b offered cs ws ≡ true
  pub for_each : (Q : ℕ → ℕ → (field_of p).F) (T : ℕ → ℕ → Bool) (E : Set) → Shown p n a b offered cs ws Q T E
      → ReachShown (model_modulo (modulus p).0 (modulus p).1 n a b Q T E) rows

-- what the call gives: none where the model is not admissible; and what it gives is an answer
abbrev pub ReachCall : LentModel → ColumnSet → Option (List ℕ) → Type 0
ReachCall m offered r = MatchOption r (admits m offered ≡ false) (λ rows. ReachAnswers m.p m.n m.a m.b (whole offered) (constants_lent m) (rows_lent m) rows)

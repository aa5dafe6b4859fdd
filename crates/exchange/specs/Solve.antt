-- What the call `solve` promises. Definitions only.
use Rattle.std.specs.Prelude.{ℕ, ◌+◌, ◌*◌, ◌<◌, ◌≡◌, Bool, true, false, ◌&&◌, List, length, get_or, leb, ltb, Option, MatchOption}
use Rattle.limits.specs.Limits.{most_columns, most_rows}
use Rattle.residue.specs.Arithmetic.{is_prime}
use Rattle.counting.specs.Sets.{Set, all}
use Rattle.columns.specs.Columns.{members, within}
use Rattle.columns.specs.ColumnSets.{whole}
use Rattle.columns.specs.declared.ColumnSet.{ColumnSet}
use Rattle.models.specs.declared.LentModel.{LentModel}
use Rattle.models.specs.Lent.{constants_lent, rows_lent}
use Rattle.rank.specs.Modulus.{modulus, field_of, residue_of}
use Rattle.listed_models.specs.ModelModulo.{model_modulo}
use Rattle.rank.specs.Layered.Model.{Model}
use Rattle.exchange.specs.Solution.{Solved}
use Rattle.exchange.specs.declared.Solution.{Solution}

-- the first k constants are below p
unfoldable pub all_below : (p k : ℕ) → List ℕ → Bool
all_below p k cs = all k (λ i. ltb (get_or cs i 0) p)

-- the sizes are within their limits; the areas hold a × n constants and b parameter rows
unfoldable pub fitting : (n a b c w : ℕ) → Bool
fitting n a b c w = leb n most_columns && leb a most_rows && leb b most_rows && leb (a * n) c && leb b w

-- the call takes the model: the sizes fit, no offered column is n or more, p is a prime of 16 bits, and the constants are below p
unfoldable pub admissible : (p n a b offered : ℕ) (cs ws : List ℕ) → Bool
admissible p n a b offered cs ws = fitting n a b (length cs) (length ws) && within n offered && ltb p 65536 && is_prime p && all_below p (a * n) cs

-- the same of a model that is handed over
abbrev pub admits : LentModel → ColumnSet → Bool
admits m offered = admissible m.p m.n m.a m.b (whole offered) (constants_lent m) (rows_lent m)

-- a model modulo p that the numbers show: its constants, its parameters and its offered columns are theirs, in its rows and columns
pub record Shown (p n a b offered : ℕ) (cs ws : List ℕ) (Q : ℕ → ℕ → (field_of p).F) (T : ℕ → ℕ → Bool) (E : Set) : Type 0 where
  pub constants : (i x : ℕ) → i < a → x < n → Q i x ≡ residue_of p (get_or cs (i * n + x) 0)
  pub parameters : (r x : ℕ) → r < b → x < n → T r x ≡ members (get_or ws r 0) x
  pub columns : (x : ℕ) → x < n → E x ≡ members offered x

-- the answer to M
abbrev pub SolvedBy : Model → Solution → Type 0
SolvedBy M r = Solved M r.rank (members (whole r.placed)) (members (whole r.constants)) (members (whole r.short)) r.rows

-- an answer to the model of these numbers: it is admissible, and the answer is that of every model that they show
pub record Answers (p n a b offered : ℕ) (cs ws : List ℕ) (s : Solution) : Type 0 where
  pub is_admissible : admissible p n a b offered cs ws ≡ true
  pub for_each : (Q : ℕ → ℕ → (field_of p).F) (T : ℕ → ℕ → Bool) (E : Set) → Shown p n a b offered cs ws Q T E
      → SolvedBy (model_modulo (modulus p).0 (modulus p).1 n a b Q T E) s

-- what the call gives: none where the model is not admissible; and what it gives is an answer
abbrev pub Solves : LentModel → ColumnSet → Option Solution → Type 0
Solves m offered r = MatchOption r (admits m offered ≡ false) (λ s. Answers m.p m.n m.a m.b (whole offered) (constants_lent m) (rows_lent m) s)

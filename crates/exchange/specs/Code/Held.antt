-- The code's tableau and owners hold a valid state of a model; and what seating a column does to them. Definitions only.
use Rattle.std.specs.Prelude.{ℕ, ◌+◌, ◌≤◌, ◌<◌, ◌≡◌, Bool, cond, List, length, get_or, eqb}
use Rattle.std.proofs.Math.ListN as ListN
use Rattle.counting.specs.Sets.{Set}
use Rattle.columns.specs.Columns.{members}
use Rattle.rank.specs.Modulus.{modulus, field_of, residue_of}
use Rattle.listed_models.specs.ModelModulo.{model_modulo}
use Rattle.rank.specs.Graph.States.{State}
use Rattle.rank.specs.Layered.Model.{Model}
use Rattle.rank.specs.Layered.Seating.{Good}
use Rattle.exchange.specs.Sizes.{lines}
use Rattle.exchange.specs.Code.Cells.{cell, Pivoted}
use Rattle.exchange.specs.Code.Scanning.{owner_at}

-- the owner y of a row that x leaves: n, where it was x
unfoldable pub vacated_owner : (x n y : ℕ) → ℕ
vacated_owner x n y = cond (eqb y x) n y

-- x has left its row, if it had one of N rows
abbrev pub Vacated : (n N x : ℕ) → List ℕ → List ℕ → Type 0
Vacated n N x o o' = (r : ℕ) → r < N → owner_at o' r ≡ vacated_owner x n (owner_at o r)

-- column x has taken row q
pub record Taken (p n a x q : ℕ) (t o t' o' : List ℕ) : Type 0 where
  pub owners : o' ≡ ListN.set o q x
  pub pivoted : q < a → Pivoted p n a q x t t'
  pub kept : a ≤ q → t' ≡ t

-- column x is seated at row q: it has left its row, if it had one of N rows, and has taken q
pub record Sat (p n a N x q : ℕ) (t o t' o' : List ℕ) : Type 0 where
  pub middle : List ℕ
  pub full : length middle ≡ lines
  pub vacated : Vacated n N x o middle
  pub taken : Taken p n a x q t middle t' o'

-- a model modulo p whose parameter rows have the numbers ws: its constants, its parameters, and the columns that are offered
pub record Given (p n b : ℕ) (ws : List ℕ) : Type 0 where
  pub Q : ℕ → ℕ → (field_of p).F
  pub T : ℕ → ℕ → Bool
  pub E : Set
  pub parameters : (r x : ℕ) → r < b → x < n → T r x ≡ members (get_or ws r 0) x

abbrev pub model_of : (p n a b : ℕ) (ws : List ℕ) → Given p n b ws → Model
model_of p n a b ws G = model_modulo (modulus p).0 (modulus p).1 n a b G.Q G.T G.E

-- the tableau shows the constants Q
abbrev pub ShowsRows : (p n a : ℕ) (Q : ℕ → ℕ → (field_of p).F) → List ℕ → Type 0
ShowsRows p n a Q t = (i x : ℕ) → i < a → x < n → residue_of p (cell t i x) ≡ Q i x

-- those of a model
abbrev pub ShowsConstants : (p n a b : ℕ) (ws : List ℕ) → Given p n b ws → List ℕ → Type 0
ShowsConstants p n a b ws G = ShowsRows p n a G.Q

-- the tableau t and the owners o hold the valid state s
pub record Held (p n a b : ℕ) (ws : List ℕ) (G : Given p n b ws) (t o : List ℕ) : Type 0 where
  pub s : State n (a + b)
  pub good : Good (model_of p n a b ws G) s
  pub cells : (r c : ℕ) → r < a → c < n → residue_of p (cell t r c) ≡ good.P r c
  pub owners : (q : ℕ) → q < a + b → owner_at o q ≡ s.owner q

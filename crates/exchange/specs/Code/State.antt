-- What is said of an admitted model and of a state of the exchange, by their parts. Definitions only.
use Rattle.std.specs.Prelude.{ℕ, ◌+◌, ◌≤◌, ◌≡◌, Bool, List, replicate}
use Rattle.limits.specs.Limits.{most_rows}
use Rattle.residue.specs.Arithmetic.{InverseTable}
use Rattle.exchange.specs.Sizes.{lines}
use Rattle.columns.specs.ColumnSets.{row_numbers}
use Rattle.exchange.specs.Code.Scanning.{Lengths, Arrays, touched, owner_at}
use Rattle.exchange.specs.Code.Held.{Given, Held}
use Rattle.exchange.specs.declared.state.Admitted.{Admitted}
use Rattle.exchange.specs.declared.state.State.{State}

-- its parameter rows as numbers, and how many rows of both kinds it has
abbrev pub rows_of : Admitted → List ℕ
rows_of m = row_numbers m.parameters.now

abbrev pub lines_of : Admitted → ℕ
lines_of m = m.a + m.b

-- what the state says of rows
abbrev pub touched_by : Admitted → State → ℕ → ℕ → Bool
touched_by m s = touched m.a s.cells (rows_of m)

abbrev pub owned_by : State → ℕ → ℕ
owned_by s = owner_at s.owner

-- the state has room for the model; and its cells are below the prime
abbrev pub Roomy : Admitted → State → Type 0
Roomy m s = Lengths m.n m.a (lines_of m) s.cells s.owner

abbrev pub Ready : Admitted → State → Type 0
Ready m s = Arrays m.p m.n m.a m.b s.cells s.owner

-- no column has been offered: every row is free
pub record Fresh (m : Admitted) (s : State) : Type 0 where
  pub ready : Ready m s
  pub inverses : InverseTable m.p m.inverses.now
  pub parameter_rows : m.b ≤ most_rows
  pub free : s.owner ≡ replicate lines m.n

-- the constants and offered columns of a model that has these parameter rows; and the state holds a valid state of it
abbrev pub Completed : Admitted → Type 0
Completed m = Given m.p m.n m.b (rows_of m)

abbrev pub Holding : (m : Admitted) → Completed m → State → Type 0
Holding m G s = Held m.p m.n m.a m.b (rows_of m) G s.cells s.owner

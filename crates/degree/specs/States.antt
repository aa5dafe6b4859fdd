-- What the structs of the descent mean, in the words of `Code`. Definitions only.
use Rattle.std.specs.Prelude.{ℕ, List}
use Rattle.columns.specs.ColumnSets.{row_numbers}
use Rattle.rank.specs.Modulus.{field_of}
use Rattle.rank.specs.Layered.Model.{Model}
use Rattle.degrees.specs.Degrees.{Powers, listed_powers}
use Rattle.degrees.specs.Dynamics.{Dynamic}
use Rattle.degree.specs.Code.{model_with, Ready, Descending, tight_part}
use Rattle.degree.specs.declared.state.PoweredModel.{PoweredModel}
use Rattle.degree.specs.declared.state.Bounds.{Bounds}

-- the model with its powers, of the constants Q
abbrev pub dynamic_of : (m : PoweredModel) (Q : ℕ → ℕ → (field_of m.p).F) → Dynamic
dynamic_of m Q = model_with m.p m.n m.a m.b Q (row_numbers m.parameters.now) m.powers.rows.now m.powers.columns.now m.powers.parameters.now

-- its powers
abbrev pub powers_of : PoweredModel → Powers
powers_of m = listed_powers m.n m.powers.rows.now m.powers.columns.now m.powers.parameters.now

-- it is what the descent needs
abbrev pub ReadyModel : PoweredModel → (cs : List ℕ) → Type 0
ReadyModel m cs = Ready m.p m.n m.a m.b cs (row_numbers m.parameters.now) m.powers.rows.now m.powers.columns.now m.powers.parameters.now

-- the arrays hold a state of its descent,
abbrev pub DescendingModel : (m : PoweredModel) (Q : ℕ → ℕ → (field_of m.p).F) (cs : List ℕ) → Bounds → (k : ℕ) → Type 0
DescendingModel m Q cs s k =
    Descending m.p m.n m.a m.b Q (row_numbers m.parameters.now) m.powers.rows.now m.powers.columns.now m.powers.parameters.now cs s.levels s.heights k

-- whose tight part is this
abbrev pub tight_model : (m : PoweredModel) (Q : ℕ → ℕ → (field_of m.p).F) (cs : List ℕ) → Bounds → Model
tight_model m Q cs s =
    tight_part m.p m.n m.a m.b Q (row_numbers m.parameters.now) m.powers.rows.now m.powers.columns.now m.powers.parameters.now cs s.levels s.heights

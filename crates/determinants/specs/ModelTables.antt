-- Layered and mixed models as tables of constants and letters, and the orders of their square parts whose determinant is not zero. Definitions only;
-- assumes nothing.
use Rattle.std.specs.Prelude.{ℕ, ◌+◌, Bool, true, false}
use Rattle.counting.specs.Beside.{beside}
use Rattle.rank.specs.Layered.Model.{Model}
use Rattle.mixed_models.specs.Mixed.{Mixed}
use Rattle.determinants.specs.Determinant.{NonzeroOrder}

module _ (M : Model) where
  open M use {K, a, b, n, Q, T, E}

  -- a layered model is one table, the constant rows and behind them the parameter rows: its constants,
  abbrev pub all_constants : ℕ → ℕ → K.F
  all_constants = beside a Q (λ r x. K.𝟘)

  -- its letters,
  abbrev pub all_letters : ℕ → ℕ → Bool
  all_letters = beside a (λ i x. false) T

  -- and the orders of its square parts, of a + b rows and the columns that are offered, whose determinant is not zero
  abbrev pub LayeredOrder : ℕ → Type 0
  LayeredOrder = NonzeroOrder K all_constants all_letters (a + b) n E

-- the same of a mixed model: m rows, and a place with both holds the sum
module _ (X : Mixed) where
  open X use {K, m, n, Q, T}

  abbrev pub MixedOrder : ℕ → Type 0
  MixedOrder = NonzeroOrder K Q T m n (λ x. true)

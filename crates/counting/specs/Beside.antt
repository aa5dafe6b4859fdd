-- Two blocks side by side: m columns or rows, and behind them others. Definitions only; assumes nothing.
use Rattle.std.specs.Prelude.{ℕ, ◌-◌}
use Rattle.std.proofs.Math.Decide.{dec_lt}
use Rattle.counting.specs.Sets.{choose}

-- f below m, and from m on g, from its 0 on
unfoldable pub beside : {A : Type 0} → ℕ → (ℕ → A) → (ℕ → A) → ℕ → A
beside m f g j = choose (dec_lt j m) (f j) (g (j - m))

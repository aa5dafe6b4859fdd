-- The list of the first k values of a function. Definitions only; assumes nothing.
use Rattle.std.specs.Prelude.{ℕ, zero, suc, List, [], ◌∷◌}

-- f 0, f 1 .. f (k - 1)
unfoldable pub listing : ℕ → (ℕ → ℕ) → List ℕ
listing zero f = []
listing (suc k) f = f 0 ∷ listing k (λ j. f (suc j))

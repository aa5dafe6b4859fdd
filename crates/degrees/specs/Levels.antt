-- Document 02, E14: the descent by which the degree is found: levels of rows and heights of columns that no entry exceeds, the tight entries, and what one round does.
-- Definitions only; assumes nothing.
use Rattle.std.specs.Prelude.{◌*◌, ◌+◌, ◌<◌, ℕ, ◌≤◌, ◌&&◌, Bool, true, ◌≢◌, ◌≡◌}
use Rattle.std.proofs.Math.Bool.{decide}
use Rattle.std.proofs.Math.Decide.{ℕ_discrete}
use Rattle.counting.specs.Beside.{beside}
use Rattle.counting.specs.Sets.{Set, choose, indicator, touching, ◌∈◌}
use Rattle.rank.specs.Layered.Model.{Model}
use Rattle.rank.specs.Linear.Kernels.{Same, hits}
use Rattle.rank.specs.Linear.Tableaus.{Tableau}
use Rattle.rank.specs.Totals.{total}
use Rattle.degrees.specs.Dynamics.{Dynamic, over}

-- s more on S: so the levels of the rows that touch a set are raised, and the heights on it
abbrev pub raised : (s : ℕ) → (ℕ → ℕ) → Set → ℕ → ℕ
raised s f S x = f x + s * indicator (S x)

module _ (X : Dynamic) where
  open X use {K, a, b, n, Q, T, column_power, power}
  open K use {F, 𝟘}

  -- A tableau P with the kernel of the constants, a level L q of each row (row a + r is parameter row r) and a height z x of each column: no entry stands
  -- above its row's level
  pub record Levelled (P : ℕ → ℕ → F) (L z : ℕ → ℕ) : Type 0 where
    pub kernel : Same K a n Q P
    pub constant_le : (h x : ℕ) → h < a → x < n → P h x ≢ 𝟘 → column_power x + z x ≤ L h
    pub row_le : (r x : ℕ) → r < b → x < n → T r x ≡ true → power r x + z x ≤ L (a + r)

  -- the tight entries, those that reach their row's level: of the tableau,
  unfoldable pub tight_constants : (ℕ → ℕ → F) → (ℕ → ℕ) → (ℕ → ℕ) → ℕ → ℕ → F
  tight_constants P L z h x = choose (ℕ_discrete (column_power x + z x) (L h)) (P h x) 𝟘

  -- and of the parameters
  unfoldable pub tight_parameters : (ℕ → ℕ) → (ℕ → ℕ) → ℕ → ℕ → Bool
  tight_parameters L z r x = T r x && decide (ℕ_discrete (power r x + z x) (L (a + r)))

  -- the tight part: the layered model of the tight entries, which the solver is given
  abbrev pub tight : (ℕ → ℕ → F) → (ℕ → ℕ) → (ℕ → ℕ) → Model
  tight P L z = over X (tight_constants P L z) (tight_parameters L z)

  -- A round, on a set J of columns
  module _ (L z : ℕ → ℕ) (J : Set) where
    -- from the tableau P₀, the rows below k have been reduced at tight entries in J: row h owns column o h of J where o h < n, and else it is free. A reduced
    -- row that is free has no tight entry in J
    pub record Eliminated (P₀ : ℕ → ℕ → F) (k : ℕ) (P : ℕ → ℕ → F) (o : ℕ → ℕ) : Type 0 where
      pub levelled : Levelled P L z
      pub same : Same K a n (tight_constants P₀ L z) (tight_constants P L z)
      pub tableau : Tableau K a n (tight_constants P L z) o
      pub owners : (h : ℕ) → h < a → o h < n → o h ∈ J
      pub none_free : (h x : ℕ) → h < a → x < n → h < k → x ∈ J → n ≤ o h → tight_constants P L z h x ≡ 𝟘
      pub later_free : (h : ℕ) → k ≤ h → n ≤ o h

    -- the rows that have a tight entry in J
    unfoldable pub touched : (ℕ → ℕ → F) → Set
    touched P = beside a (touching n (hits K (tight_constants P L z)) J) (touching n (tight_parameters L z) J)

    -- the heights on J can be raised by s: in a row without a tight entry in J, the entries there are at least s below its level
    pub record Room (s : ℕ) (P : ℕ → ℕ → F) : Type 0 where
      pub constant_room : (h x : ℕ) → h < a → x < n → x ∈ J → P h x ≢ 𝟘 → (h ∈ touched P → ⊥) → column_power x + z x + s ≤ L h
      pub row_room : (r x : ℕ) → r < b → x < n → x ∈ J → T r x ≡ true → ((a + r) ∈ touched P → ⊥) → power r x + z x + s ≤ L (a + r)

  -- what holds after rounds that raised by k together, and began with no level and no height above c
  pub record AfterRounds (c k : ℕ) (P : ℕ → ℕ → F) (L z : ℕ → ℕ) : Type 0 where
    pub levelled : Levelled P L z
    pub low_heights : (x : ℕ) → x < n → z x ≤ c + k
    pub low_levels : (q : ℕ) → q < a + b → L q ≤ c + k
    pub fallen : total (a + b) L + k ≤ total n z + c * (a + b)

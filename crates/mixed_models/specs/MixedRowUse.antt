-- What rows I and columns J do with the rows of a mixed model: whether they leave a row over. Definitions only.
use Rattle.std.specs.Prelude.{◌<◌, ◌≡◌, ◌⊎◌}
use Rattle.counting.specs.Sets.{#, Set, ∁}
use Rattle.rank.specs.Layered.Rank.{constant_rank, matching}
use Rattle.mixed_models.specs.Mixed.{Mixed, divided}

module _ (X : Mixed) where
  open X use {m}

  -- I and J use every row: the constants on them have as large a rank as I has rows, and the parameters on the rest have a matching of all other rows
  pub record UsesEveryRow (I J : Set) : Type 0 where
    pub constant_rows : constant_rank (divided X I) J ≡ # m I
    pub parameter_rows : matching (divided X I) J ≡ # m (∁ I)

  -- I and J leave a row over: the rank is below the number of rows in I, or the largest matching below the number of the others
  abbrev pub LeavesRow : (I J : Set) → Type 0
  LeavesRow I J = (constant_rank (divided X I) J < # m I) ⊎ (matching (divided X I) J < # m (∁ I))

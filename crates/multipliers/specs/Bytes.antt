-- The bytes of an answer about multipliers, by the pattern of the calls for a host in C. Definitions only.
use Rattle.std.specs.Prelude.{ℕ, ◌+◌, ◌*◌, List, ◌∷◌}
use Rattle.limits.specs.Limits.{most_columns}
use Rattle.format.specs.File.Format.{entry_bytes}
use Rattle.multipliers.specs.Shown.{Multipliers}
use Rattle.multipliers.specs.declared.MultipliersNumbers.{MultipliersNumbers}

-- how many there are
abbrev pub multipliers_length : ℕ
multipliers_length = 1 + 2 * most_columns

-- the outcome, and two bytes a multiplier, the low one first
abbrev pub multipliers_bytes : Multipliers → List ℕ
multipliers_bytes r = r.outcome ∷ entry_bytes r.multipliers

-- numbers that are put, as an answer; they refuse nothing
abbrev pub multipliers_numbers : MultipliersNumbers → Multipliers
multipliers_numbers r = record { refusal = 0; outcome = r.outcome; multipliers = r.multipliers }

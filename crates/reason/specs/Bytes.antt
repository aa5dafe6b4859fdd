-- The bytes of an answer about the reason for a column, by the pattern of the calls for a host in C. Definitions only.
use Rattle.std.specs.Prelude.{ℕ, ◌+◌, ◌*◌, List, ◌∷◌, ◌++◌}
use Rattle.limits.specs.Limits.{most_columns, set_bytes}
use Rattle.counting.specs.Sets.{indicator}
use Rattle.columns.specs.Bytes.{bytes_of}
use Rattle.columns.specs.ColumnSets.{whole}
use Rattle.format.specs.File.Format.{entry_bytes}
use Rattle.reason.specs.Shown.{Reason}
use Rattle.reason.specs.declared.ReasonNumbers.{ReasonNumbers}

-- how many there are
abbrev pub reason_length : ℕ
reason_length = set_bytes + 1 + 2 * most_columns

-- the set, 1 where multipliers are given and 0 where not, and two bytes a multiplier, the low one first
abbrev pub reason_bytes : Reason → List ℕ
reason_bytes r = bytes_of set_bytes (whole r.set) ++ (indicator r.given ∷ entry_bytes r.multipliers)

-- numbers that are put, as an answer; they refuse nothing
abbrev pub reason_numbers : ReasonNumbers → Reason
reason_numbers r = record { refusal = 0; set = r.set; given = r.given; multipliers = r.multipliers }

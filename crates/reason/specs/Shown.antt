-- An answer about the reason for a column in numbers, with that of its refusal, and what the code gives in that form.
-- Definitions only.
use Rattle.std.specs.Prelude.{ℕ, Bool, true, false, List, replicate, Option, None, Some, Result, Ok, Err}
use Rattle.limits.specs.Limits.{most_columns}
use Rattle.columns.specs.declared.ColumnSet.{ColumnSet}
use Rattle.columns.specs.ColumnSets.{empty_set}
use Rattle.format.specs.Refused.{refusal_number}
use Rattle.format.specs.declared.refusals.Refusal.{Refusal}
use Rattle.reason.specs.declared.Reason as code

-- the refusal or 0; the reason, a set of columns; whether multipliers are given; and the multiplier of each column, 0 where none is
pub record Reason : Type 0 where
  pub refusal : ℕ
  pub set : ColumnSet
  pub given : Bool
  pub multipliers : List ℕ

abbrev pub are_given : Option (List ℕ) → Bool
are_given None = false
are_given (Some ms) = true

abbrev pub given_multipliers : Option (List ℕ) → List ℕ
given_multipliers None = replicate most_columns 0
given_multipliers (Some ms) = ms

-- an answer refuses nothing; a refusal has the empty set and no multipliers
abbrev pub reason_shown : Result code.Reason Refusal → Reason
reason_shown (Ok r) = record { refusal = 0; set = r.set; given = are_given r.multipliers; multipliers = given_multipliers r.multipliers }
reason_shown (Err e) = record { refusal = refusal_number e; set = empty_set; given = false; multipliers = replicate most_columns 0 }

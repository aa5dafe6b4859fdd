-- An answer about multipliers in numbers, with that of its refusal, and what the code gives in that form.
-- Definitions only.
use Rattle.std.specs.Prelude.{ℕ, List, replicate, Result, Ok, Err}
use Rattle.limits.specs.Limits.{most_columns}
use Rattle.exchange.specs.DependenceCall.{outcome_of, multipliers_of}
use Rattle.exchange.specs.declared.Dependence.{Dependence}
use Rattle.format.specs.Refused.{refusal_number}
use Rattle.format.specs.declared.refusals.Refusal.{Refusal}

-- the refusal or 0; the outcome, 2 where the held columns are dependent, 1 where the named column depends on them, 0 where it does not; and the multiplier
-- of each column, 0 where none is given
pub record Multipliers : Type 0 where
  pub refusal : ℕ
  pub outcome : ℕ
  pub multipliers : List ℕ

-- an answer refuses nothing; a refusal has the outcome 0, and 0 for each multiplier
abbrev pub multipliers_shown : Result Dependence Refusal → Multipliers
multipliers_shown (Ok d) = record { refusal = 0; outcome = outcome_of d; multipliers = multipliers_of d }
multipliers_shown (Err e) = record { refusal = refusal_number e; outcome = 0; multipliers = replicate most_columns 0 }

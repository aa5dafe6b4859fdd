-- An answer about a claim in numbers, with that of its refusal, and what the code gives in that form.
-- Definitions only.
use Rattle.std.specs.Prelude.{ℕ, Bool, false, Result, Ok, Err}
use Rattle.format.specs.Refused.{refusal_number}
use Rattle.format.specs.declared.refusals.Refusal.{Refusal}

-- the refusal or 0; and whether the claim is accepted
pub record Acceptance : Type 0 where
  pub refusal : ℕ
  pub accepted : Bool

-- an answer refuses nothing; a refusal accepts no claim
abbrev pub acceptance_shown : Result Bool Refusal → Acceptance
acceptance_shown (Ok t) = record { refusal = 0; accepted = t }
acceptance_shown (Err e) = record { refusal = refusal_number e; accepted = false }

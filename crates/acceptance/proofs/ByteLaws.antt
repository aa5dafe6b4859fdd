-- The answer about a claim that was read from bytes is the answer about these bytes. Assumes nothing.
use Prim.Native.Nat.{ℕ}
use mathlib.Core.Path.{◌≡◌, refl, subst}
use mathlib.Core.Bool.{true}
use mathlib.Core.Logic.{◌↔◌}
use mathlib.Core.List.{List}
use Rattle.columns.specs.Columns.{members}
use Rattle.rank.specs.Layered.Model.{Model}
use Rattle.claims.specs.Claim.{AcceptsClaim}
use Rattle.acceptance.specs.declared.Claim.{Claim}
use Rattle.acceptance.specs.Shown.{Acceptance}
use Rattle.acceptance.specs.Answers.{ClaimAccepted, AcceptanceAnswered}
use Rattle.acceptance.specs.Bytes.{claim_rank, claim_side, claim_rows, claim_set, ClaimShown, AcceptanceOf}

-- the claim is accepted where that of the bytes is
pub claim_same : {M : Model} {bs : List ℕ} {c : Claim} → ClaimShown bs c → ClaimAccepted M c ≡ AcceptsClaim M (claim_rank bs) (members (claim_side bs)) (claim_rows bs) (members (claim_set bs))
claim_same s = rw (s.rank_is, s.side_is, s.rows_are, s.set_is) refl

pub answered_of_bytes : {M : Model} {bs : List ℕ} {c : Claim} (r : Acceptance) → ClaimShown bs c → AcceptanceAnswered M c r → AcceptanceOf M bs r
answered_of_bytes r s = subst (λ (X : Type 0). (r.accepted ≡ true) ↔ X) (claim_same s)

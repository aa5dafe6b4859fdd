-- Document 02, E12: what the call about a claim promises, for a model handed over and for the model in a file. Definitions only.
use Rattle.std.specs.Prelude.{ℕ, ◌≡◌, true, false, ◌↔◌, List}
use Rattle.std.proofs.Math.Option.{Option}
use Rattle.columns.specs.Columns.{members}
use Rattle.columns.specs.ColumnSets.{whole}
use Rattle.listed_models.specs.ListedModel.{listed_model}
use Rattle.rank.specs.Layered.Model.{Model}
use Rattle.claims.specs.Claim.{AcceptsClaim}
use Rattle.models.specs.Lent.{constants_lent, rows_lent, numbers_lent}
use Rattle.models.specs.declared.LentModel.{LentModel}
use Rattle.format.specs.Refusals.{refusal}
use Rattle.format.specs.File.Format.{judge}
use Rattle.layered.specs.Answers.{RankCall}
use Rattle.layered.specs.FileModel.{file_model}
use Rattle.acceptance.specs.declared.Claim.{Claim}
use Rattle.acceptance.specs.Shown.{Acceptance}

-- the claim is accepted: its assignment is legal, has as many columns as its rank says, and the sum of its column set is that rank
abbrev pub ClaimAccepted : Model → Claim → Type 0
ClaimAccepted M c = AcceptsClaim M c.rank (members (whole c.constants)) c.rows (members (whole c.set))

-- a refusal accepts no claim
abbrev pub AcceptanceRefused : Acceptance → Type 0
AcceptanceRefused r = r.accepted ≡ false

-- the answer: it says "accepted" exactly where the claim is
abbrev pub AcceptanceAnswered : Model → Claim → Acceptance → Type 0
AcceptanceAnswered M c r = (r.accepted ≡ true) ↔ ClaimAccepted M c

-- the question about a model that is judged; no claim is refused
pub record AcceptanceAsked (M : Model) (c : Claim) (r : Acceptance) : Type 0 where
  pub no_refusal : r.refusal ≡ 0
  pub answer : AcceptanceAnswered M c r

-- the call for a model handed over: judged as a rank call is, and no more
abbrev pub AcceptanceCall : (p n a b : ℕ) (cs ws : List ℕ) → Option (List ℕ) → Claim → Acceptance → Type 0
AcceptanceCall p n a b cs ws ns c r = RankCall (refusal p n a b cs ws ns) r.refusal (AcceptanceRefused r) (AcceptanceAnswered (listed_model p n a b cs ws) c r)

-- the same of a model that is lent,
abbrev pub AcceptanceModelCall : LentModel → Claim → Acceptance → Type 0
AcceptanceModelCall m c r = AcceptanceCall m.p m.n m.a m.b (constants_lent m) (rows_lent m) (numbers_lent m) c r

-- and for the model in a file
abbrev pub AcceptanceFileCall : (file : List ℕ) → Claim → Acceptance → Type 0
AcceptanceFileCall file c r = RankCall (judge file) r.refusal (AcceptanceRefused r) (AcceptanceAnswered (file_model file) c r)

-- `harness::harness_multipliers` meets its contract, by what the call and the writing of its answer ensure. Assumes nothing.
use Rattle.std.specs.Prelude.{Ok, Err}
use Prim.Native.Nat.{ℕ}
use mathlib.Core.List.{List}
use Rattle.std.proofs.Math.Option.{Option}
use Rattle.std.proofs.Common.{sym, take}
use Rattle.columns.specs.Bytes.{number}
use Rattle.columns.specs.Columns.{room_bytes, members}
use Rattle.format.specs.Refusals.{◌then◌, first_refusal, model_tests}
use Rattle.layered.specs.Answers.{RankCall}
use Rattle.multipliers.specs.Shown.{Multipliers, multipliers_shown}
use Rattle.multipliers.specs.Answers.{column_question, MultipliersRefused, MultipliersAnswered}
use Rattle.multipliers.specs.Bytes.{multipliers_bytes}
use Rattle.format.proofs.Refused.{refusal_some}
use Rattle.host.proofs.AreaLaws.{put_same}
use Rattle.harness.proofs.CallLaws.{of_handed, rank_refused, rank_put}
use Rattle.harness.proofs.harness_multipliers.Goals as goal

-- the call, with the held columns as a number
abbrev Called : (held x p n a b : ℕ) (cs ws : List ℕ) → Option (List ℕ) → Multipliers → Type 0
Called held x p n a b cs ws ns r =
    RankCall (first_refusal (model_tests p n a b cs ws ns then column_question n held x)) r.refusal (MultipliersRefused r) (MultipliersAnswered p n a cs (members held) x r)

pub returns-in-Ok : goal.returns-in-Ok
returns-in-Ok c =
    let h = of_handed (λ p n a b cs ws ns. Called (number (take room_bytes c.args.held.now)) c.args.column p n a b cs ws ns (multipliers_shown (Ok c.in-Ok.found))) c.args.numbered c.args.numbers c.lent_model-model.ensures (rw (sym c.of_bytes-set.ensures.is_number) (c.in-Ok.ensures)) in
    rw c.number.ensures (rank_put multipliers_bytes _ (multipliers_shown (Ok c.in-Ok.found)) h (put_same multipliers_bytes c.of.ensures c.put_multipliers.ensures))

pub returns-in-Err : goal.returns-in-Err
returns-in-Err c =
    let h = of_handed (λ p n a b cs ws ns. Called (number (take room_bytes c.args.held.now)) c.args.column p n a b cs ws ns (multipliers_shown (Err c.in-Err.refusal))) c.args.numbered c.args.numbers c.lent_model-model.ensures (rw (sym c.of_bytes-set.ensures.is_number) (c.in-Err.ensures)) in
    rw c.from.ensures (rank_refused _ _ _ h (refusal_some c.in-Err.refusal))

-- `acceptance::put_acceptance` meets its contract. Assumes nothing.
use Rattle.std.proofs.Common.{ℕ, [], ◌∷◌, refl, sym, ap}
use Rattle.std.specs.Prelude.{Ok}
use Rattle.counting.specs.Sets.{indicator}
use Rattle.format.specs.OverLaws.{wrote_none, wrote_set, wrote_all}
use Rattle.host.proofs.AreaLaws.{put_refused, put_done}
use Rattle.acceptance.specs.Bytes.{acceptance_length, acceptance_bytes}
use Rattle.acceptance.specs.Shown.{acceptance_shown}
use Rattle.acceptance.proofs.put_acceptance.Goals as goal

pub returns-then-out-lt-ACCEPTANCE_LENGTH : goal.returns-then-out-lt-ACCEPTANCE_LENGTH
returns-then-out-lt-ACCEPTANCE_LENGTH c = put_refused acceptance_length _ _ c.if-out-lt-ACCEPTANCE_LENGTH.true

pub returns : goal.returns
unfolding indicator
returns c =
    let room = c.if-out-lt-ACCEPTANCE_LENGTH.false in
    let w = wrote_none (acceptance_bytes (acceptance_shown (Ok c.args.accepted))) c.args.out.now room in
    put_done acceptance_length _ _ room (wrote_all (wrote_set c.from.result [] w (ap (λ (v : ℕ). v ∷ []) (sym c.from.ensures))) refl)

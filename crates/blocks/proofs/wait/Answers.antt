-- `blocks::wait`: the row of y gets x. Assumes nothing.
use Rattle.std.proofs.Common.{ℕ, ◌∙◌, ap}
use Rattle.columns.specs.Columns.{members, inserted}
use Rattle.blocks.proofs.TurnLaws.{waits_put}
use Rattle.blocks.proofs.wait.Goals as goal

pub returns : goal.returns
returns c = rw c.put_row.ensures (waits_put _ _ _ _ (c.with-more.ensures ∙ ap (λ (w : ℕ). inserted (members w) c.args.x) c.row.ensures))

-- `exchange::reading::entries_by_owner` meets its contract. Assumes nothing.
use Rattle.exchange.proofs.ReadingLaws.{entries_none}
use Rattle.exchange.proofs.reading.entries_by_owner.Goals as goal

pub loop-q-init : goal.loop-q-init
loop-q-init c = entries_none c.args.model.now.n c.args.x c.args.state.now.cells c.args.state.now.owner

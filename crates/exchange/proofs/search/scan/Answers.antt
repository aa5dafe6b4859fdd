-- `exchange::search::scan` meets its contract, by what the two readings ensure. Assumes nothing.
use Rattle.exchange.proofs.ScanningLaws.{owned_both}
use Rattle.exchange.proofs.search.scan.Goals as goal

pub returns : goal.returns
returns c = rw c.union.ensures (owned_both _ _ _ _ _ _ _ _ c.in-OwnedBy.ensures c.in-OwnedBy-met.ensures)

-- `reader::Reader::sizes` meets its contract. Assumes nothing.
use Rattle.std.proofs.Common.{sym}
use Rattle.format.proofs.Judging.{handed, gives}
use Rattle.format.proofs.Headers.{sizes_so}
use Rattle.format.proofs.reader.Reader.sizes.Goals as goal

pub returns-in_err-header-clause-said : goal.returns-in_err-header-clause-said
returns-in_err-header-clause-said c = sizes_so c.args.p c.args.self.rest.now (handed _ c.from_residual.ensures.1 c.in_err-header.ensures.refusal_is)

pub returns-clause-said : goal.returns-clause-said
returns-clause-said c =
    let j = c.in_ok-header.ensures in
    sizes_so c.args.p c.args.self.rest.now (gives {x = (c.in_ok-header.header, c.in_ok-header.rest)} (sym j.refusal_is) (j.given.p_is, j.given.sizes_are))

-- `reader::Reader::prime` meets its contract. Assumes nothing.
use Rattle.std.proofs.Common.{sym}
use Rattle.format.proofs.Judging.{handed, gives}
use Rattle.format.proofs.Headers.{prime_so}
use Rattle.format.proofs.reader.Reader.prime.Goals as goal

pub returns-in_err-p-clause-said : goal.returns-in_err-p-clause-said
returns-in_err-p-clause-said c = prime_so c.args.self.rest.now (handed _ c.from_residual.ensures.1 c.in_err-p.ensures.refusal_is)

pub returns-clause-said : goal.returns-clause-said
returns-clause-said c = let j = c.in_ok-p.ensures in prime_so c.args.self.rest.now (gives {x = (c.in_ok-p.p, c.in_ok-p.rest)} (sym j.refusal_is) j.given.p_is)

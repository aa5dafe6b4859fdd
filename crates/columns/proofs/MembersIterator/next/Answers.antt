-- Where a column is left, the least is one, and without it fewer are left. Assumes nothing.
use Rattle.std.proofs.Common.{rules, arith, ◌≡◌, ◌<◌, ℕ}
use Rattle.counting.specs.Sets.{Set, ◌∈◌}
use Rattle.columns.specs.Columns.{width, least}
use Rattle.columns.specs.Turns.{left}
use Rattle.columns.specs.Words.Operations.{least_in}
use Rattle.columns.specs.Words.SetLaws.{removed_less}
use Rattle.columns.proofs.MembersIterator.next.Goals as goal

there : (S : Set) (x : ℕ) → x ≡ least width S → x < width → x ∈ S
there S x e l = rw e (least_in width S (omega (arith, e, l)))

pub returns-clause-steps : goal.returns-clause-steps
returns-clause-steps c =
    let f = c.in_ok-x.ensures in
    record { first = f.0; below = f.1; there = there (left c.args.self.now) c.in_ok-x.x f.0 f.1; others = f.2 }

pub returns-clause-goes : goal.returns-clause-goes
returns-clause-goes c =
    let f = c.in_ok-x.ensures in
    let l = rw (← f.2) at (removed_less width (left c.args.self.now) c.in_ok-x.x f.1 (there (left c.args.self.now) c.in_ok-x.x f.0 f.1)) in
    search (rules, l)

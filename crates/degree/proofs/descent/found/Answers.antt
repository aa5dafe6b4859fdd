-- `degree::descent::found`: the sums are small. Assumes nothing.
use Rattle.std.proofs.Common.{arith, get_or}
use Rattle.degrees.specs.Totals.{total_below}
use Rattle.degree.proofs.descent.found.Goals as goal

pub overflow_add-most : goal.overflow_add-most
overflow_add-most c =
    let m = c.args.model.now in
    let h = c.requires.0 in
    omega (arith, total_below m.a 15 (λ i. get_or m.powers.rows.now i 0) h.powers_low, total_below m.n 65535 (λ q. get_or c.args.bounds.now.levels q 0) h.levels_low, h.rows, h.columns)

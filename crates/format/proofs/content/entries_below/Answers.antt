-- `content::entries_below` meets its contract. Assumes nothing.
use borrow.Author.Tests.{lt-ltb}
use Rattle.std.proofs.Common.{length, ltb, arith, sym, ap, ◌∙◌}
use Rattle.format.specs.Refusals.{constant_test}
use Rattle.format.specs.ListLaws.{all_pass_done, largest_below}
use Rattle.format.specs.File.Format.{entries}
use Rattle.format.proofs.Entries.{entries_next, entries_done}
use Rattle.format.proofs.content.entries_below.Goals as goal

pub returns-then-body-lt2 : goal.returns-then-body-lt2
unfolding constant_test
returns-then-body-lt2 c =
    lt-ltb _ _ c.if-body-lt2.true ∙ sym (ap (constant_test c.args.p) (entries_done c.args.body.now c.if-body-lt2.true) ∙ all_pass_done (λ x. ltb x c.args.p))

pub returns-else-body-lt2 : goal.returns-else-body-lt2
unfolding constant_test
returns-else-body-lt2 c =
    let some = ap length (entries_next c.args.body.now c.if-body-lt2.false) in
    ap (λ x. ltb x c.args.p) (c.from.ensures ∙ c.largest_entry.ensures) ∙ largest_below c.args.p (entries c.args.body.now) (omega (arith, some))

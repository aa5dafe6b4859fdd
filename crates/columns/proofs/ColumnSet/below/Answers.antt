-- Below 64 nothing is in the high word. Assumes nothing.
use Rattle.std.proofs.Common.{rules, arith, ◌≡◌, sym, ap, ◌∙◌}
use Rattle.std.proofs.Math.Decide.{dec_lt}
use Rattle.columns.specs.Columns.{word_width, none, upto_in}
use Rattle.columns.specs.ColumnSets.{whole}
use Rattle.columns.specs.Words.Operations.{members_zero, members_upto}
use Rattle.columns.specs.Words.Halves.{below_low, below_high}
use Rattle.columns.proofs.ColumnSet.below.Goals as goal

none_below : upto_in word_width 0 ≡ none
none_below = sym (members_upto word_width 0 (omega arith)) ∙ members_zero

pub returns : goal.returns
unfolding whole
returns c = let high = c.below-2.ensures ∙ ap (upto_in word_width) c.saturating_sub.ensures in
    elim (dec_lt c.args.n word_width) [
      | yes l ↦ below_low c.below.result c.below-2.result c.args.n (search rules) l c.below.ensures (high ∙ ap (upto_in word_width) (omega arith) ∙ none_below)
      | no nl ↦ below_high c.below.result c.below-2.result c.args.n (search rules) (omega arith) c.below.ensures high
    ]

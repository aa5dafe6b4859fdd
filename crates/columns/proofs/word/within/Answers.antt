-- No column of a word is 64 or more, and those from n on are what is left when the word has moved n down. Assumes nothing.
use Rattle.std.proofs.Common.{rules, arith, sym, ◌∙◌}
use Rattle.std.proofs.lemmas.Bool.{le-leb}
use Rattle.columns.specs.Columns.{word_width}
use Rattle.columns.specs.Words.Operations.{within_in_iff, within_shift}
use Rattle.columns.proofs.word.within.Goals as goal

pub returns-then-n-ge-WIDTH : goal.returns-then-n-ge-WIDTH
returns-then-n-ge-WIDTH c = let wide = c.if-n-ge-WIDTH.true in
    le-leb _ _ wide ∙ sym ((within_in_iff word_width c.args.n c.args.word).1 (λ x l m. omega (arith, wide)))

pub returns-else-n-ge-WIDTH : goal.returns-else-n-ge-WIDTH
returns-else-n-ge-WIDTH c = within_shift word_width c.args.n c.args.word (search rules)

-- A word has no column from 64 on. Assumes nothing.
use Rattle.std.proofs.Common.{rules, refl, sym, ◌∙◌}
use Rattle.std.proofs.lemmas.Bool.{le-ltb}
use Rattle.columns.specs.Columns.{word_width, members}
use Rattle.columns.specs.Words.Operations.{members_beyond}
use Rattle.columns.proofs.word.contains.Goals as goal

pub returns-then-x-lt-WIDTH : goal.returns-then-x-lt-WIDTH
unfolding members
returns-then-x-lt-WIDTH c = refl

pub returns-else-x-lt-WIDTH : goal.returns-else-x-lt-WIDTH
returns-else-x-lt-WIDTH c = le-ltb _ _ c.if-x-lt-WIDTH.false ∙ sym (members_beyond word_width c.args.word c.args.x (search rules) c.if-x-lt-WIDTH.false)

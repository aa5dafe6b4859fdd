-- `word::lowered` meets its contract. Assumes nothing.
use mathlib.Core.Path.{◌∙◌}
use Rattle.columns.specs.Columns.{word_width}
use Rattle.columns.specs.Words.Operations.{members_zero, members_down, none_down}
use borrow.Author.Rules.{rules}
use Rattle.columns.proofs.word.lowered.Goals as goal

pub returns-then-m-lt-WIDTH : goal.returns-then-m-lt-WIDTH
returns-then-m-lt-WIDTH c = members_down c.args.word c.args.m

pub returns-else-m-lt-WIDTH : goal.returns-else-m-lt-WIDTH
returns-else-m-lt-WIDTH c = members_zero ∙ none_down word_width c.args.word c.args.m (search rules) c.if-m-lt-WIDTH.false

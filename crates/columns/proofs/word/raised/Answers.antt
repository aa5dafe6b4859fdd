-- `word::raised` meets its contract. Assumes nothing.
use mathlib.Core.Path.{◌∙◌}
use Rattle.columns.specs.Columns.{word_width, members}
use Rattle.columns.specs.Words.Operations.{members_zero, members_up, none_up}
use Rattle.columns.proofs.word.raised.Goals as goal

pub returns-then-m-lt-WIDTH : goal.returns-then-m-lt-WIDTH
returns-then-m-lt-WIDTH c = members_up word_width c.args.word c.args.m

pub returns-else-m-lt-WIDTH : goal.returns-else-m-lt-WIDTH
returns-else-m-lt-WIDTH c = members_zero ∙ none_up word_width (members c.args.word) c.args.m c.if-m-lt-WIDTH.false

-- `word::without_first` meets its contract: 1 less has the columns above the least, and not it. Assumes nothing.
use borrow.Author.Rules.{rules}
use Rattle.columns.specs.Columns.{word_width}
use Rattle.columns.specs.Words.Operations.{members_rest}
use Rattle.columns.proofs.word.without_first.Goals as goal

pub returns : goal.returns
returns c = members_rest word_width c.args.word (search rules)

-- `word::is_empty` meets its contract: the empty word is the one with no member. Assumes nothing.
use borrow.Author.Rules.{rules}
use Rattle.columns.specs.Columns.{word_width}
use Rattle.columns.specs.Words.Operations.{none_test}
use Rattle.columns.proofs.word.is_empty.Goals as goal

pub returns : goal.returns
returns c = none_test word_width c.args.word (search rules)

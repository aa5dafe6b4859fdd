-- `word::size` meets its contract: the count of ones is the number of members. Assumes nothing.
use native.Mathlib.Omega.{arith}
use borrow.Author.Rules.{rules}
use Rattle.counting.specs.Counts.{#-le}
use Rattle.columns.specs.Columns.{word_width, members}
use Rattle.columns.specs.Words.Operations.{size_ones}
use Rattle.columns.proofs.word.size.Goals as goal

pub overflow_cast-result : goal.overflow_cast-result
overflow_cast-result c = omega (arith, size_ones word_width c.args.word (search rules), #-le word_width (members c.args.word))

pub returns : goal.returns
returns c = size_ones word_width c.args.word (search rules)

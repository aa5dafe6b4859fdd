-- `word::first` meets its contract: the trailing zeros stand below the least member. Assumes nothing.
use native.Mathlib.Omega.{arith}
use Rattle.columns.specs.Columns.{word_width, members}
use Rattle.columns.specs.Words.Operations.{least_zeros, least_le}
use Rattle.columns.proofs.word.first.Goals as goal

pub overflow_cast-result : goal.overflow_cast-result
overflow_cast-result c = omega (arith, least_zeros word_width c.args.word, least_le word_width (members c.args.word))

pub returns : goal.returns
returns c = least_zeros word_width c.args.word

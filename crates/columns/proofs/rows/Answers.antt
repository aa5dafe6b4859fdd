-- `columns::rows` meets its contract. Assumes nothing.
use mathlib.Core.Path.{sym}
use Rattle.columns.specs.Words.Rows.{rows_length}
use Rattle.columns.proofs.rows.Goals as goal

pub returns : goal.returns
returns c = sym (rows_length c.args.words.now)

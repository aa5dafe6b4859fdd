-- `reader::Reader::rows` meets its contract. Assumes nothing.
use Rattle.format.proofs.Headers.{rows_so}
use Rattle.format.proofs.reader.Reader.rows.Goals as goal

pub returns-clause-said : goal.returns-clause-said
returns-clause-said c = rows_so c.args.header c.args.self.rest.now c.judge_row_fields.result c.judge_row_fields.ensures

-- `text::put_refused_line` meets its contract. Assumes nothing.
use Rattle.text.specs.Text.{ascii, refused_line}
use Rattle.text.proofs.put_refused_line.Goals as goal

pub returns : goal.returns
unfolding ascii refused_line
returns c = rw c.from.ensures at c.put_number_line.ensures

-- `pen::Pen::head` meets its contract. Assumes nothing.
use Rattle.std.specs.Prelude.{List, ℕ, [], ◌∷◌}
use Rattle.std.proofs.Common.{sym, ap, ◌∙◌}
use Rattle.writer.proofs.Putting.{puts_two}
use Rattle.writer.proofs.Rows.{two_bytes}
use Rattle.writer.proofs.pen.Pen.head.Goals as goal

pub returns : goal.returns
returns c =
    puts_two (c.args.tag ∷ []) _ (ap (λ (bs : List ℕ). c.args.tag ∷ bs) (sym (c.to_le_bytes.ensures ∙ two_bytes c.args.size c.requires.0))) _ c.requires.1 c.put.ensures c.put-2.ensures

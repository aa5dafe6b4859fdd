-- `fields::put_prime` meets its contract. Assumes nothing.
use Rattle.std.specs.Prelude.{List, ℕ, []}
use Rattle.std.proofs.Common.{rules, sym, ap}
use Rattle.columns.specs.Bytes.{bytes_of}
use Rattle.format.specs.File.Piece.{field_bytes}
use Rattle.format.specs.File.Format.{prime_tag}
use Rattle.writer.proofs.Putting.{puts_two, open_room, put_field}
use Rattle.writer.proofs.fields.put_prime.Goals as goal

pub returns : goal.returns
returns c =
    let bytes = puts_two (field_bytes prime_tag 2 []) _ (ap (λ (bs : List ℕ). field_bytes prime_tag 2 bs) (sym c.to_le_bytes.ensures)) _ (open_room (field_bytes prime_tag 2 (bytes_of 2 c.args.p)) c.new-pen.ensures c.requires) c.head.ensures c.put.ensures in
    put_field c.new-pen.ensures bytes (search rules)

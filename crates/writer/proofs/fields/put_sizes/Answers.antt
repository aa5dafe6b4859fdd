-- `fields::put_sizes` meets its contract. Assumes nothing.
use Rattle.std.specs.Prelude.{[], ◌∷◌}
use Rattle.std.proofs.Common.{rules, refl}
use Rattle.format.specs.File.Piece.{field_bytes}
use Rattle.format.specs.File.Format.{sizes_tag}
use Rattle.writer.proofs.Putting.{puts_two, open_room, put_field}
use Rattle.writer.proofs.fields.put_sizes.Goals as goal

pub returns : goal.returns
returns c = put_field c.new-pen.ensures (puts_two (field_bytes sizes_tag 3 []) _ refl _ (open_room (field_bytes sizes_tag 3 (c.args.n ∷ c.args.a ∷ c.args.b ∷ [])) c.new-pen.ensures c.requires) c.head.ensures c.put.ensures) (search rules)

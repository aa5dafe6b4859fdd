-- `numbers::with_bit` meets its contract. Assumes nothing.
use Rattle.std.proofs.Common.{ℕ, ap, ◌∙◌, bit_or}
use Rattle.columns.specs.Columns.{word_width, members}
use Rattle.columns.specs.Words.Bits.{shl_one}
use Rattle.columns.specs.Words.Operations.{members_with}
use Rattle.format.proofs.numbers.with_bit.Goals as goal

pub returns : goal.returns
returns c = ap (λ (m : ℕ). members (bit_or c.args.word m)) (shl_one c.args.x c.requires) ∙ members_with word_width c.args.word c.args.x c.requires

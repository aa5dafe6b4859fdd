-- `text::put_decimal` meets its contract: a small number is its one digit, and the digits of a large one are those of its tenth and its last. Assumes nothing.
use Rattle.std.proofs.Common.{◌≡◌, ℕ, ◌/◌, [], ◌∷◌, ◌++◌, sym, ap, ◌∙◌}
use Rattle.text.specs.Text.{decimal}
use Rattle.text.specs.PutLaws.{puts_as, puts_then}
use Rattle.text.specs.TextLaws.{decimal_small, decimal_large}
use Rattle.text.proofs.+put_decimal.Goals as goal

pub returns-then-x-lt10 : goal.returns-then-x-lt10
returns-then-x-lt10 t c = puts_as (ap (λ (d : ℕ). d ∷ []) c.digit.ensures ∙ sym (decimal_small c.args.x c.if-x-lt10.true)) c.put_byte.ensures

pub returns : goal.returns
returns t c =
    let x = c.args.x in
    let whole : decimal (x / 10) ++ (c.digit-2.result ∷ []) ≡ decimal x = ap (λ (d : ℕ). decimal (x / 10) ++ (d ∷ [])) c.digit-2.ensures ∙ sym (decimal_large x c.if-x-lt10.false) in
    puts_as whole (puts_then c.put_decimal-after_tens.ensures c.put_byte-2.ensures)

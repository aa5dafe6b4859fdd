-- `text::read_number` meets its contract. Assumes nothing.
use Rattle.std.proofs.Common.{sym, ap, ◌∙◌, arith, drop_of_length-le}
use Rattle.std.proofs.lemmas.Bool.{eqb-true, eqb-false}
use Rattle.text.proofs.Digits.{read_on, number_empty, number_begun, read_digit, read_other, read_beyond, read_all}
use Rattle.text.proofs.read_number.Goals as goal

pub returns-then-is_empty : goal.returns-then-is_empty
returns-then-is_empty c = c.from-past.ensures ∙ sym (number_empty _ _ (eqb-true _ 0 (sym c.is_empty.ensures ∙ c.if-is_empty.true)))

pub loop-c-init : goal.loop-c-init
loop-c-init c = (omega arith, number_begun _ _ (eqb-false _ 0 (sym c.is_empty.ensures ∙ c.if-is_empty.false)))

pub returns-then-not-is_ascii_digit : goal.returns-then-not-is_ascii_digit
returns-then-not-is_ascii_digit c =
    let l = c.loop-c in
    c.from-past.ensures ∙ sym (l.invariant.1 ∙ read_other _ _ _ _ c.loop-c-test.true (sym c.is_ascii_digit.ensures.value ∙ c.if-not-is_ascii_digit.true))

pub returns-then-x-past : goal.returns-then-x-past
returns-then-x-past c =
    let l = c.loop-c in
    let read = l.invariant.1 ∙ read_digit _ _ _ _ c.loop-c-test.true (sym c.is_ascii_digit.ensures.value ∙ c.if-not-is_ascii_digit.false) in
    c.from-past.ensures ∙ sym (read ∙ read_beyond _ _ _ (omega arith))

pub loop-c-preserved : goal.loop-c-preserved
loop-c-preserved c =
    let l = c.loop-c in
    let read = l.invariant.1 ∙ read_digit _ _ _ _ c.loop-c-test.true (sym c.is_ascii_digit.ensures.value ∙ c.if-not-is_ascii_digit.false) in
    (omega arith, cc (read, c.with_digit-x.ensures))

pub returns : goal.returns
returns c = let l = c.loop-c in sym (l.invariant.1 ∙ ap (read_on _ _) (drop_of_length-le _ c.loop-c-test.false) ∙ read_all _ _ l.invariant.0)

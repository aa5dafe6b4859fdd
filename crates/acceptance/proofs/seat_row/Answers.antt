-- `acceptance::seat_row`: a row names no column, or cannot serve the one that it names, or serves it. Assumes nothing.
use Rattle.std.proofs.Common.{sym, ◌∙◌, refl}
use Rattle.acceptance.proofs.SeatLaws.{no_row_seated, row_unseated, row_seated}
use Rattle.acceptance.proofs.seat_row.Goals as goal

pub returns-then-c-from : goal.returns-then-c-from
returns-then-c-from c = no_row_seated _ _ _ _ _ _ _ (c.if-c-from.true ∙ c.from.ensures) refl

pub returns-then-not-can_serve : goal.returns-then-not-can_serve
returns-then-not-can_serve c = row_unseated _ _ _ _ _ _ (λ e. c.if-c-from.false (e ∙ sym c.from.ensures)) (sym c.can_serve.ensures ∙ c.if-not-can_serve.true)

pub returns : goal.returns
returns c = row_seated _ _ _ _ _ _ _ c.requires (λ e. c.if-c-from.false (e ∙ sym c.from.ensures)) (sym c.can_serve.ensures ∙ c.if-not-can_serve.false) c.with.ensures

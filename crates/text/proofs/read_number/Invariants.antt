-- What is read on from place c-index comes to the number; and what was read is at most the limit. Assumes nothing.
use Rattle.std.proofs.Common.{◌≡◌, ◌≤◌, drop}
use Rattle.text.specs.Text.{number_below}
use Rattle.text.proofs.Digits.{read_on}
use Rattle.text.proofs.read_number.Given as goal

abbrev pub invariant-loop-c : goal.invariant-loop-c
invariant-loop-c l = (l.x ≤ l.limit) × (number_below l.limit l.digits ≡ read_on l.limit l.x (drop l.c-index l.digits))

-- `judge::is_numbered` meets its contract. Assumes nothing.
use Rattle.std.proofs.Common.{ℕ, ◌≡◌, ◌+◌, List, arith, sym, ap, ◌∙◌, get_or, drop, eq-eqb, lt-ltb, le-ltb}
use lib.Seq.{get_or-drop}
use Rattle.format.specs.Refusals.{head_bytes}
use Rattle.format.specs.File.Format.{parameter_size, parameter_row, numbered_test}
use Rattle.format.specs.File.RowSizes.{parameter_size_most}
use Rattle.format.proofs.judge.is_numbered.Goals as goal

behind : (k : ℕ) (s : List ℕ) → get_or (drop k (drop head_bytes s)) 0 0 ≡ get_or s (head_bytes + k) 0
behind k s = get_or-drop k (drop head_bytes s) 0 0 ∙ get_or-drop head_bytes s (k + 0) 0 ∙ ap (λ (i : ℕ). get_or s (head_bytes + i) 0) (omega arith)

pub overflow_add-parameter_size : goal.overflow_add-parameter_size
overflow_add-parameter_size c = omega (arith, c.parameter_size.ensures, parameter_size_most c.args.n)

pub returns-then-b-ne0 : goal.returns-then-b-ne0
unfolding numbered_test parameter_row
returns-then-b-ne0 c =
    let s = c.args.rest.now in
    let place = c.byte_at.ensures ∙ ap (λ (k : ℕ). get_or s (head_bytes + k) 0) c.parameter_size.ensures ∙ sym (behind (parameter_size c.args.n) s) in
    simp (place, lt-ltb 0 c.args.b (omega (arith, c.if-b-ne0.true)))

pub returns-else-b-ne0 : goal.returns-else-b-ne0
unfolding numbered_test
returns-else-b-ne0 c = simp (eq-eqb c.args.b 0 c.if-b-ne0.false, le-ltb 0 c.args.b (omega (arith, c.if-b-ne0.false)))

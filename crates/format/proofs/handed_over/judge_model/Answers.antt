-- `format::handed_over::judge_model`: each answer is the first refusal of the tests made so far.
use Rattle.std.proofs.Common.{◌*◌, ◌≤◌, sym, ◌∙◌}
use native.Mathlib.Nat.{mul-le-mul}
use native.Mathlib.Omega.{arith}
use borrow.Author.Tests.{le-leb, lt-leb}
use Rattle.limits.specs.Limits.{most_columns, most_rows}
use Rattle.format.specs.RefusalLaws.{first_fails, first_passes, first_none}
use Rattle.format.specs.Refusals.{refusal, model_tests, area_test}
use Rattle.format.specs.TestLaws.{size_reads}
use Rattle.format.proofs.handed_over.judge_model.Goals.{Else-not-sizes_within}
use Rattle.format.proofs.handed_over.judge_model.Goals as goal

sizes_are : (c : Else-not-sizes_within) → let m = c.args.model.now in (1 ≤ m.n) × (m.n ≤ most_columns) × (m.a ≤ most_rows) × (m.b ≤ most_rows)
sizes_are c = let m = c.args.model.now in (size_reads m.n m.a m.b).0 (sym c.sizes_within.ensures ∙ c.if-not-sizes_within.false)

pub overflow_mul-k : goal.overflow_mul-k
overflow_mul-k c =
    let m = c.args.model.now in
    let z = sizes_are (goal.at.overflow_mul-k c).Else-not-sizes_within in
    let h : m.a * m.n ≤ most_rows * most_columns = mul-le-mul {n₂ = most_rows} {m₂ = most_columns} z.2 z.1 in
    omega arith

pub numbers_held-requires : goal.numbers_held-requires
numbers_held-requires c = let z = sizes_are (goal.at.numbers_held-requires c).Else-not-sizes_within in (z.1, z.3)

pub numbers_apart-requires : goal.numbers_apart-requires
numbers_apart-requires c =
    let z = sizes_are (goal.at.numbers_apart-requires c).Else-not-sizes_within in
    (z.1, rw c.rows.ensures at c.if-rows-b.false, sym c.numbers_held.ensures ∙ c.if-not-numbers_held.false)

pub returns-then-not-prime_within : goal.returns-then-not-prime_within
unfolding refusal model_tests area_test
returns-then-not-prime_within c = first_fails _ _ _ (sym c.prime_within.ensures ∙ c.if-not-prime_within.true)

pub returns-then-not-sizes_within : goal.returns-then-not-sizes_within
unfolding refusal model_tests area_test
returns-then-not-sizes_within c = first_passes _ _ _ _ (sym c.prime_within.ensures ∙ c.if-not-prime_within.false) (first_fails _ _ _ (sym c.sizes_within.ensures ∙ c.if-not-sizes_within.true))

pub returns-then-constants-k : goal.returns-then-constants-k
unfolding refusal model_tests area_test
returns-then-constants-k c = first_passes _ _ _ _ (sym c.prime_within.ensures ∙ c.if-not-prime_within.false) (first_passes _ _ _ _ (sym c.sizes_within.ensures ∙ c.if-not-sizes_within.false) (first_fails _ _ _ (lt-leb _ _ c.if-constants-k.true)))

pub returns-then-rows-b : goal.returns-then-rows-b
unfolding refusal model_tests area_test
returns-then-rows-b c = first_passes _ _ _ _ (sym c.prime_within.ensures ∙ c.if-not-prime_within.false) (first_passes _ _ _ _ (sym c.sizes_within.ensures ∙ c.if-not-sizes_within.false) (first_passes _ _ _ _ (le-leb _ _ c.if-constants-k.false) (first_fails _ _ _ (lt-leb _ _ (rw c.rows.ensures at c.if-rows-b.true)))))

pub returns-then-not-numbers_held : goal.returns-then-not-numbers_held
unfolding refusal model_tests area_test
returns-then-not-numbers_held c = first_passes _ _ _ _ (sym c.prime_within.ensures ∙ c.if-not-prime_within.false) (first_passes _ _ _ _ (sym c.sizes_within.ensures ∙ c.if-not-sizes_within.false) (first_passes _ _ _ _ (le-leb _ _ c.if-constants-k.false) (first_passes _ _ _ _ (le-leb _ _ (rw c.rows.ensures at c.if-rows-b.false)) (first_fails _ _ _ (sym c.numbers_held.ensures ∙ c.if-not-numbers_held.true)))))

pub returns-then-not-constants_below : goal.returns-then-not-constants_below
unfolding refusal model_tests area_test
returns-then-not-constants_below c = first_passes _ _ _ _ (sym c.prime_within.ensures ∙ c.if-not-prime_within.false) (first_passes _ _ _ _ (sym c.sizes_within.ensures ∙ c.if-not-sizes_within.false) (first_passes _ _ _ _ (le-leb _ _ c.if-constants-k.false) (first_passes _ _ _ _ (le-leb _ _ (rw c.rows.ensures at c.if-rows-b.false)) (first_passes _ _ _ _ (sym c.numbers_held.ensures ∙ c.if-not-numbers_held.false) (first_fails _ _ _ (sym c.constants_below.ensures ∙ c.if-not-constants_below.true))))))

pub returns-then-not-parameters_within : goal.returns-then-not-parameters_within
unfolding refusal model_tests area_test
returns-then-not-parameters_within c = first_passes _ _ _ _ (sym c.prime_within.ensures ∙ c.if-not-prime_within.false) (first_passes _ _ _ _ (sym c.sizes_within.ensures ∙ c.if-not-sizes_within.false) (first_passes _ _ _ _ (le-leb _ _ c.if-constants-k.false) (first_passes _ _ _ _ (le-leb _ _ (rw c.rows.ensures at c.if-rows-b.false)) (first_passes _ _ _ _ (sym c.numbers_held.ensures ∙ c.if-not-numbers_held.false) (first_passes _ _ _ _ (sym c.constants_below.ensures ∙ c.if-not-constants_below.false) (first_fails _ _ _ (sym c.parameters_within.ensures ∙ c.if-not-parameters_within.true)))))))

pub returns-then-not-numbers_apart : goal.returns-then-not-numbers_apart
unfolding refusal model_tests area_test
returns-then-not-numbers_apart c = first_passes _ _ _ _ (sym c.prime_within.ensures ∙ c.if-not-prime_within.false) (first_passes _ _ _ _ (sym c.sizes_within.ensures ∙ c.if-not-sizes_within.false) (first_passes _ _ _ _ (le-leb _ _ c.if-constants-k.false) (first_passes _ _ _ _ (le-leb _ _ (rw c.rows.ensures at c.if-rows-b.false)) (first_passes _ _ _ _ (sym c.numbers_held.ensures ∙ c.if-not-numbers_held.false) (first_passes _ _ _ _ (sym c.constants_below.ensures ∙ c.if-not-constants_below.false) (first_passes _ _ _ _ (sym c.parameters_within.ensures ∙ c.if-not-parameters_within.false) (first_fails _ _ _ (sym c.numbers_apart.ensures ∙ c.if-not-numbers_apart.true))))))))

pub returns : goal.returns
unfolding refusal model_tests area_test
returns c = first_passes _ _ _ _ (sym c.prime_within.ensures ∙ c.if-not-prime_within.false) (first_passes _ _ _ _ (sym c.sizes_within.ensures ∙ c.if-not-sizes_within.false) (first_passes _ _ _ _ (le-leb _ _ c.if-constants-k.false) (first_passes _ _ _ _ (le-leb _ _ (rw c.rows.ensures at c.if-rows-b.false)) (first_passes _ _ _ _ (sym c.numbers_held.ensures ∙ c.if-not-numbers_held.false) (first_passes _ _ _ _ (sym c.constants_below.ensures ∙ c.if-not-constants_below.false) (first_passes _ _ _ _ (sym c.parameters_within.ensures ∙ c.if-not-parameters_within.false) (first_passes _ _ _ _ (sym c.numbers_apart.ensures ∙ c.if-not-numbers_apart.false) first_none)))))))

-- `judge::judge_numbered_row` meets its contract. Assumes nothing.
use Rattle.std.proofs.Common.{ℕ, ◌≡◌, arith, refl, sym, ap, ◌∙◌, subst, true, List, ◌++◌}
use Rattle.counting.specs.Counts.{#-le}
use Rattle.columns.specs.Columns.{width, members, within}
use Rattle.columns.specs.ColumnSets.{whole}
use Rattle.format.specs.Numbers.{parameter_count}
use Rattle.format.specs.NumberTable.{NumbersJudged}
use Rattle.format.specs.NumberLaws.{count_within}
use Rattle.format.specs.Refusals.{first_refusal}
use Rattle.format.specs.RefusalLaws.{then_zero, unless_zero}
use Rattle.format.specs.File.Piece.{head_tests}
use Rattle.format.specs.File.Format.{parameter_tag, parameter_size, parameter_row, number_field}
use Rattle.format.proofs.Judging.{handed, refused_then, after_passed}
use Rattle.format.proofs.judge.judge_numbered_row.Goals as goal

inside : (n : ℕ) (s : List ℕ) → first_refusal ((parameter_row n).tests s) ≡ 0 → within n ((parameter_row n).dec s) ≡ true
unfolding parameter_row
inside n s e = unless_zero _ _ (then_zero (head_tests parameter_tag (parameter_size n) s) _ e).1

pub returns-in_err-set : goal.returns-in_err-set
returns-in_err-set c = record { same_length = refl; judged = λ before h. handed _ c.from_residual.ensures.1 (refused_then _ _ _ c.in_err-set.ensures.refusal_is) }

pub judge_numbers-requires : goal.judge_numbers-requires
judge_numbers-requires c = (omega (arith, c.size.ensures, #-le width (members (whole c.in_ok-set.set))), c.requires)

pub returns : goal.returns
returns c =
    let a = c.args in
    let s = a.rest.now in
    let j = c.in_ok-set.ensures in
    let set = j.given.set_is in
    let passed = sym j.refusal_is in
    let counted = c.size.ensures ∙ count_within a.n (whole c.in_ok-set.set) j.given.set_fits (ap (within a.n) set ∙ inside a.n s passed) ∙ ap (parameter_count a.n) set in
    let own = subst (λ (u : List ℕ). NumbersJudged (number_field c.size.result) (λ before ks. before ++ ks) u a.table.now c.judge_numbers.new.table c.judge_numbers.result) j.given.rest_is c.judge_numbers.ensures in
    let mine = subst (λ (k : ℕ). NumbersJudged (number_field k) (λ before ks. before ++ ks) ((parameter_row a.n).rest s) a.table.now c.judge_numbers.new.table c.judge_numbers.result) counted own in
    record { same_length = mine.same_length; judged = λ before h. after_passed ((parameter_row a.n).tests s) passed (mine.judged before h) }

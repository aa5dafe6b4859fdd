-- `columns::split_first` meets its contract: of the first word that is not empty. Assumes nothing.
use Rattle.std.proofs.Common.{◌≡◌, ◌≢◌, ◌<◌, ◌+◌, ◌^◌, ℕ, sym, ap, ◌∙◌, rules, arith, eq-eqb, eqb-true}
use Rattle.counting.specs.Sets.{#}
use Rattle.columns.specs.Columns.{word_width, width, members, none, removed, least}
use Rattle.columns.specs.ColumnSets.{whole, joined}
use Rattle.columns.specs.Words.Operations.{least_le, none_test, members_zero}
use Rattle.columns.specs.Words.SetLaws.{least_there}
use Rattle.columns.specs.Words.Halves.{is_none, is_some, joined_below, size_halves, first_low, first_high, without_first_low, without_first_high}
use Rattle.columns.proofs.ColumnSet.split_first.Goals as goal

low : (l h l' x : ℕ) → l < 2 ^ word_width → l' < 2 ^ word_width → # word_width (members l) ≢ 0 → x ≡ least word_width (members l)
    → members l' ≡ removed (members l) (least word_width (members l))
    → (x ≡ least width (members (joined l h))) × (x < width) × (members (joined l' h) ≡ removed (members (joined l h)) x)
low l h l' x b b' nz e d =
    let first : x ≡ least width (members (joined l h)) = e ∙ first_low l h b nz in
    (first, omega (arith, e, (least_there word_width (members l) nz).0), without_first_low l h l' b b' nz d ∙ ap (removed (members (joined l h))) (sym first))

high : (l h h' x : ℕ) → l < 2 ^ word_width → # word_width (members l) ≡ 0 → # word_width (members h) ≢ 0 → x ≡ least word_width (members h)
    → members h' ≡ removed (members h) (least word_width (members h))
    → (word_width + x ≡ least width (members (joined l h))) × (word_width + x < width) × (members (joined l h') ≡ removed (members (joined l h)) (word_width + x))
high l h h' x b z nz e d =
    let first : word_width + x ≡ least width (members (joined l h)) = ap (λ (m : ℕ). word_width + m) e ∙ first_high l h b z in
    (first, omega (arith, e, (least_there word_width (members h) nz).0), without_first_high l h h' b z d ∙ ap (removed (members (joined l h))) (sym first))

neither : (l h : ℕ) → l < 2 ^ word_width → h < 2 ^ word_width → # word_width (members l) ≡ 0 → # word_width (members h) ≡ 0 → members (joined l h) ≡ none
neither l h b c z y =
    let empty : # width (members (joined l h)) ≡ 0 = omega (arith, size_halves l h b, z, y) in
    ap members (eqb-true (joined l h) 0 (none_test width (joined l h) (joined_below l h b c) ∙ eq-eqb _ 0 empty)) ∙ members_zero

pub overflow_add-result : goal.overflow_add-result
overflow_add-result c = omega (arith, c.first-then-not-is_empty-2.ensures, least_le word_width (members c.args.self.high))

pub returns-then-not-is_empty : goal.returns-then-not-is_empty
unfolding whole
returns-then-not-is_empty c = let s = c.args.self in
    low s.low s.high c.without_first.result c.first.result (search rules) (search rules) (is_some _ _ c.is_empty.ensures c.if-not-is_empty.true) c.first.ensures c.without_first.ensures

pub returns-then-not-is_empty-2 : goal.returns-then-not-is_empty-2
unfolding whole
returns-then-not-is_empty-2 c = let s = c.args.self in
    high s.low s.high c.without_first-then-not-is_empty-2.result c.first-then-not-is_empty-2.result (search rules) (is_none _ _ c.is_empty.ensures c.if-not-is_empty.false)
    (is_some _ _ c.is_empty-else-not-is_empty.ensures c.if-not-is_empty-2.true) c.first-then-not-is_empty-2.ensures c.without_first-then-not-is_empty-2.ensures

pub returns-else-not-is_empty-2 : goal.returns-else-not-is_empty-2
unfolding whole
returns-else-not-is_empty-2 c = let s = c.args.self in
    neither s.low s.high (search rules) (search rules) (is_none _ _ c.is_empty.ensures c.if-not-is_empty.false) (is_none _ _ c.is_empty-else-not-is_empty.ensures c.if-not-is_empty-2.false)

-- `degree::powers::parameters_low` meets its contract: each turn judges one row by its top over heights of 0. Assumes nothing.
use Rattle.std.proofs.Common.{ℕ, ◌≡◌, ◌≤◌, ◌<◌, ◌+◌, ◌*◌, arith, sym, ap, ◌∙◌, subst, Bool, true, false, not, ◌||◌, leb, get_or, replicate}
use borrow.Author.Count.{below_more}
use Rattle.limits.specs.Limits.{most_columns}
use Rattle.counting.specs.Sets.{all, ◌∈◌}
use Rattle.counting.specs.Counts.{all_iff}
use Rattle.columns.specs.Columns.{members, within}
use Rattle.columns.specs.ColumnSets.{whole, row_numbers}
use Rattle.rank.specs.ListedModel.{parameter_at}
use Rattle.exchange.proofs.CellLaws.{row_within}
use Rattle.degree.specs.Answers.{most_power}
use Rattle.degree.specs.Code.{Top, ParameterRow}
use Rattle.degree.proofs.LevelLaws.{zeros}
use Rattle.degree.proofs.TopLaws.{all_fails, row_low, row_high}
use Rattle.degree.proofs.powers.parameters_low.Goals.{After-row-row}
use Rattle.degree.proofs.powers.parameters_low.Goals as goal

-- the turn's row
row_lent : (c : After-row-row) → let m = c.args.model.now in ParameterRow m.n (whole c.row-row.result) (c.loop-r.r * m.n) m.powers.parameters.now (replicate most_columns 0)
row_lent c =
    let m = c.args.model.now in
    let l : c.loop-r.r < m.b = omega arith in
    record {
      columns = c.requires.0;
      row_within = ap (within m.n) c.row-row.ensures ∙ c.requires.2 _ (omega arith);
      powers_lent = omega (arith, row_within c.loop-r.r m.b m.n l, c.requires.1);
      heights_lent = c.requires.0;
      heights_low = λ x k. omega (arith, zeros most_columns x);
    }

-- whether the powers of the turn's row are within the limit, where w stands for it
abbrev within_limit : After-row-row → ℕ → Bool
within_limit c w = let m = c.args.model.now in all m.n (λ x. not (members w x) || leb (get_or m.powers.parameters.now (c.loop-r.r * m.n + x) 0) most_power)

-- t is the top of the turn's row
abbrev RowTop : After-row-row → ℕ → Type 0
RowTop c t = let m = c.args.model.now in
    Top m.n (λ x. x ∈ members (whole c.row-row.result)) (λ x. get_or m.powers.parameters.now (c.loop-r.r * m.n + x) 0 + get_or {A = ℕ} (replicate most_columns 0) x 0) t

-- they are where the top is, and else not
low : (c : After-row-row) (t : ℕ) → RowTop c t → t ≤ most_power → within_limit c (get_or (row_numbers c.args.model.now.parameters.now) c.loop-r.r 0) ≡ true
low c t top l =
    let m = c.args.model.now in
    subst (λ (w : ℕ). within_limit c w ≡ true) c.row-row.ensures (row_low (λ x. get_or m.powers.parameters.now (c.loop-r.r * m.n + x) 0) (λ x k. omega (arith, zeros most_columns x)) top l)

high : (c : After-row-row) (t : ℕ) → RowTop c t → most_power < t → within_limit c (get_or (row_numbers c.args.model.now.parameters.now) c.loop-r.r 0) ≡ false
high c t top l =
    let m = c.args.model.now in
    subst (λ (w : ℕ). within_limit c w ≡ false) c.row-row.ensures (row_high (λ x. get_or m.powers.parameters.now (c.loop-r.r * m.n + x) 0) (λ x k. omega (arith, zeros most_columns x)) top l)

pub parameter_top-top-requires : goal.parameter_top-top-requires
parameter_top-top-requires c = (c.args.model.now.n, row_lent (goal.at.parameter_top-top-requires c).After-row-row)

pub returns-then-top-from : goal.returns-then-top-from
returns-then-top-from c =
    let r = (goal.at.returns-then-top-from c).After-row-row in
    sym (all_fails _ _ c.loop-r.r (omega arith) (high r _ (c.parameter_top-top.ensures c.args.model.now.n (row_lent r)) (omega arith)))

pub loop-r-preserved : goal.loop-r-preserved
loop-r-preserved c =
    let m = c.args.model.now in
    let r = (goal.at.loop-r-preserved c).After-row-row in
    below_more (λ j. all m.n (λ x. not (parameter_at (row_numbers m.parameters.now) j x) || leb (get_or m.powers.parameters.now (j * m.n + x) 0) most_power) ≡ true) c.loop-r.r
    c.loop-r.invariant (low r _ (c.parameter_top-top.ensures m.n (row_lent r)) (omega arith))

pub returns : goal.returns
returns c =
    let l = c.loop-r in
    let done : l.r ≡ c.args.model.now.b = omega arith in
    sym ((all_iff _ _).1 (rw done at l.invariant))

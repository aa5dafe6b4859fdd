-- `degree::descent::turn` meets its contract, by what its callees ensure. Assumes nothing.
use Rattle.std.proofs.Common.{ℕ, ◌≡◌, ◌≤◌, ◌<◌, length, get_or, rules, arith}
use Rattle.limits.specs.Limits.{most_columns}
use Rattle.rank.specs.Modulus.{field_of}
use Rattle.exchange.specs.Reduction.{RowsShown, reduced}
use Rattle.degree.specs.Code.{tableau_of}
use Rattle.degree.proofs.RoundLaws.{heights_small, reduction_taken, rise_fits, round_done}
use Rattle.degree.proofs.descent.turn.Goals.{Start, After-reduce}
use Rattle.degree.proofs.descent.turn.Goals as goal

-- the heights are small
low : (c : Start) → (x : ℕ) → x < c.args.model.now.n → get_or c.args.bounds.now.heights x 0 ≤ 60000
low c x l = omega (arith, heights_small _ _ _ _ _ _ _ _ _ _ _ _ _ c.requires.1.2 x l)

-- how many weights there are
many_weights : (c : After-reduce) → length c.weights-weights.result ≡ most_columns
many_weights c = search (rules, c.weights-weights.type_inv)

-- the rows are reduced
rows_shown : (c : After-reduce) → let m = c.args.model.now in
    RowsShown m.p m.n m.a (reduced (field_of m.p) m.n (λ x. get_or c.weights-weights.result x 0) (λ h. get_or c.args.bounds.now.levels h 0) (tableau_of m.p m.n c.args.constants.now) m.a)
    c.args.constants.now c.reduce.new.constants
rows_shown c = c.reduce.ensures.if_valid (reduction_taken _ _ _ _ _ _ _ _ _ _ _ _ _ c.requires.1.2 c.weights-weights.result (omega (arith, many_weights c, c.requires.1.2.ready.columns)))

pub weights-weights-requires : goal.weights-weights-requires
weights-weights-requires c =
    let d = c.requires.1.2 in
    λ x e.
    let l = c.requires.0 x e in
    (omega (arith, l, d.ready.columns), omega (arith, l, d.ready.column_powers_lent), omega (arith, l, d.height_count, d.ready.columns), low (goal.at.weights-weights-requires c).Start x l)

pub tops-tops-requires : goal.tops-tops-requires
tops-tops-requires c =
    let d = c.requires.1.2 in
    let r = (goal.at.tops-tops-requires c).After-reduce in
    record {
      columns = d.ready.columns;
      lines = omega (arith, d.ready.square, d.ready.columns);
      constants_lent = omega (arith, (rows_shown r).same_length, d.ready.constants_lent);
      rows_within = d.ready.rows_within;
      powers_lent = d.ready.powers_lent;
      weights_lent = omega (arith, many_weights r, d.ready.columns);
      heights_lent = omega (arith, d.height_count, d.ready.columns);
      heights_low = low (goal.at.tops-tops-requires c).Start;
    }

pub raise_levels-requires : goal.raise_levels-requires
raise_levels-requires c =
    let n = c.args.model.now.n in
    let d = c.requires.1.2 in
    let many : length c.tops-tops.result ≡ most_columns = search (rules, c.tops-tops.type_inv) in (
      omega (arith, d.level_count, d.ready.columns),
      omega (arith, many, d.ready.columns),
      (rise_fits _ _ _ _ _ _ _ _ _ _ _ _ _ d _ _ (c.weights-weights.ensures n) c.requires.1.3 _ _ (rows_shown (goal.at.raise_levels-requires c).After-reduce) c.tops-tops.ensures _ (c.rise-rise.ensures n)).0,
    )

pub raise_heights-requires : goal.raise_heights-requires
raise_heights-requires c =
    let n = c.args.model.now.n in
    let d = c.requires.1.2 in
    λ x e.
    let l = c.requires.0 x e in (
      omega (arith, l, d.height_count, d.ready.columns),
      (rise_fits _ _ _ _ _ _ _ _ _ _ _ _ _ d _ _ (c.weights-weights.ensures n) c.requires.1.3 _ _ (rows_shown (goal.at.raise_heights-requires c).After-reduce) c.tops-tops.ensures _ (c.rise-rise.ensures n)).1 x l,
    )

pub returns : goal.returns
returns c =
    let n = c.args.model.now.n in
    let rows = rows_shown (goal.at.returns c).After-reduce in
    λ Q k d small. (
      (c.rise-rise.ensures n).some,
      round_done _ _ _ _ Q _ _ _ _ _ _ _ k d _ _ (c.weights-weights.ensures n) small _ _ rows c.tops-tops.ensures _ (c.rise-rise.ensures n) _ _ c.raise_levels.ensures (c.raise_heights.ensures n),
    )

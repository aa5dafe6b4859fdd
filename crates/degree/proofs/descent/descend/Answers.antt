-- `degree::descent::descend` meets its contract: a turn goes on to the next state, or ends at the degree. Assumes nothing.
use Rattle.std.proofs.Common.{ℕ, ◌≡◌, ◌≢◌, ◌<◌, length, get_or, rules, arith, sym, ◌∙◌}
use Rattle.std.specs.Prelude.{Ok}
use Rattle.limits.specs.Limits.{most_rows}
use Rattle.counting.specs.Sets.{◌∈◌}
use Rattle.columns.specs.Columns.{members}
use Rattle.columns.specs.ColumnSets.{whole}
use Rattle.rank.specs.Modulus.{field_of}
use Rattle.rank.specs.Layered.Rank.{sum}
use Rattle.rank.proofs.Theorems.{short_is_the_smallest}
use Rattle.degrees.proofs.Theorems.{short_set_is_small}
use Rattle.exchange.specs.Solve.{SolvedBy}
use Rattle.degree.specs.Shown.{degree_shown}
use Rattle.degree.specs.Code.{first_most, tableau_of}
use Rattle.degree.specs.States.{dynamic_of, DescendingModel, tight_model}
use Rattle.degree.proofs.RoundLaws.{heights_small, levels_small, risen_small}
use Rattle.degree.proofs.AnswerLaws.{answer_found, degree_by_levels, degree_small}
use Rattle.degree.proofs.descent.descend.Goals.{After-solve_tight-s}
use Rattle.degree.proofs.descent.descend.Goals as goal

-- of the turn's state: the solver's answer, whose short set lies below n and is small where the rank is not n
module _ (c : After-solve_tight-s) (Q : ℕ → ℕ → (field_of c.args.model.now.p).F) (d : DescendingModel c.args.model.now Q c.loop-bounds.constants c.loop-bounds.bounds c.loop-bounds.risen) where
  solved : SolvedBy (tight_model c.args.model.now Q c.loop-bounds.constants c.loop-bounds.bounds) c.solve_tight-s.result
  solved = c.solve_tight-s.ensures Q c.loop-bounds.risen d

  below : (x : ℕ) → x ∈ members (whole c.solve_tight-s.result.short) → x < c.args.model.now.n
  below x e = ((short_is_the_smallest (tight_model c.args.model.now Q c.loop-bounds.constants c.loop-bounds.bounds)).0 x (sym (solved.is_short x) ∙ e)).0

  small : c.solve_tight-s.result.rank ≢ c.args.model.now.n → sum (tight_model c.args.model.now Q c.loop-bounds.constants c.loop-bounds.bounds) (members (whole c.solve_tight-s.result.short)) < c.args.model.now.n
  small ne =
      let m = c.args.model.now in
      let l = c.loop-bounds in
      let s = c.solve_tight-s.result in
      short_set_is_small (dynamic_of m Q) first_most l.risen (tableau_of m.p m.n l.constants) (λ q. get_or l.bounds.levels q 0) (λ x. get_or l.bounds.heights x 0) d.after
      s.rank (members (whole s.placed)) (members (whole s.constants)) (members (whole s.short)) s.rows solved ne

pub solve_tight-s-requires : goal.solve_tight-s-requires
solve_tight-s-requires c = let r = c.requires.1 in (r.0, c.loop-bounds.risen, c.loop-bounds.invariant r.0 r.1 r.2)

pub found-requires : goal.found-requires
found-requires c =
    let r = c.requires.1 in
    let d = c.loop-bounds.invariant r.0 r.1 r.2 in
    let h = solved (goal.at.found-requires c).After-solve_tight-s r.0 d in
    let s = c.solve_tight-s.result in (
      record {
        columns = d.ready.columns;
        rows = omega (arith, d.ready.square, d.ready.columns);
        powers_lent = d.ready.row_powers_lent;
        powers_low = d.ready.row_powers_low;
        levels_lent = omega (arith, d.level_count, d.ready.columns);
        levels_low = λ q l. omega (arith, levels_small _ _ _ _ _ _ _ _ _ _ _ _ _ d q l);
        heights_lent = omega (arith, d.height_count, d.ready.columns);
        heights_low = λ x l. omega (arith, heights_small _ _ _ _ _ _ _ _ _ _ _ _ _ d x l);
      },
      (_, degree_small _ _ _ _ _ _ _ _ _ _ _ _ _ d s h c.if-s-model.true, degree_by_levels _ _ _ _ _ _ _ _ _ _ _ _ _ d s h c.if-s-model.true),
    )

pub returns-then-s-model : goal.returns-then-s-model
returns-then-s-model c =
    let k = (goal.at.returns-then-s-model c).After-solve_tight-s in
    let s = c.solve_tight-s.result in
    let r = c.found.ensures in
    let rows : length c.found.result.rows ≡ most_rows = search (rules, c.found.type_inv) in
    λ Q shown full.
    let d = c.loop-bounds.invariant Q shown full in
    let h = solved k Q d in
    answer_found _ _ _ _ Q _ _ _ _ _ _ _ _ d s h c.if-s-model.true (degree_shown (Ok c.found.result)) rows (r.2 _ (degree_by_levels _ _ _ _ Q _ _ _ _ _ _ _ _ d s h c.if-s-model.true)) r.0 r.1

pub turn-requires : goal.turn-requires
turn-requires c =
    let k = (goal.at.turn-requires c).After-solve_tight-s in
    let r = c.requires.1 in
    let d = c.loop-bounds.invariant r.0 r.1 r.2 in
    (below k r.0 d, (r.0, c.loop-bounds.risen, d, small k r.0 d c.if-s-model.false))

pub overflow_add-risen : goal.overflow_add-risen
overflow_add-risen c =
    let r = c.requires.1 in
    omega (arith, risen_small _ _ _ _ _ _ _ _ _ _ _ _ _ (c.loop-bounds.invariant r.0 r.1 r.2))

pub loop-bounds-smaller : goal.loop-bounds-smaller
loop-bounds-smaller c =
    let k = (goal.at.loop-bounds-smaller c).After-solve_tight-s in
    let r = c.requires.1 in
    let d = c.loop-bounds.invariant r.0 r.1 r.2 in
    omega (arith, risen_small _ _ _ _ _ _ _ _ _ _ _ _ _ d, (c.turn.ensures r.0 c.loop-bounds.risen d (small k r.0 d c.if-s-model.false)).0, c.from-risen.ensures)

pub loop-bounds-preserved : goal.loop-bounds-preserved
loop-bounds-preserved c =
    let k = (goal.at.loop-bounds-preserved c).After-solve_tight-s in
    λ Q shown full.
    let d = c.loop-bounds.invariant Q shown full in
    rw c.from-risen.ensures (c.turn.ensures Q c.loop-bounds.risen d (small k Q d c.if-s-model.false)).1

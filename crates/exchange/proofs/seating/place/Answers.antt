-- `exchange::seating::place` meets its contract. Assumes nothing.
use Rattle.std.proofs.Common.{◌≡◌, ◌+◌, ◌<◌, ap, ◌∙◌, arith}
use Rattle.counting.specs.Sets.{Set}
use Rattle.columns.specs.Columns.{members, none, inserted}
use Rattle.columns.specs.ColumnSets.{whole, row_numbers}
use Rattle.columns.specs.Words.Sets.{empty_none}
use Rattle.exchange.specs.Code.Scanning.{Arrays}
use Rattle.exchange.specs.declared.search.Found.TheVariants.{Free}
use Rattle.exchange.proofs.PlacingLaws.{Seeks, seeks, holds_first, found_below, turn_holds, turn_nearer, last_turn, blocked}
use Rattle.exchange.proofs.seating.place.Goals.{After-with-start, In-Free, After-search-found-in-Free}
use Rattle.exchange.proofs.seating.place.Goals as goal

-- the search starts from column j alone
starts : (c : After-with-start) → members (whole c.with-start.result) ≡ inserted none c.args.j
starts c = c.with-start.ensures ∙ ap (λ (S : Set). inserted S c.args.j) (empty_none c.empty.ensures)

-- a turn has found a free row
free : (c : In-Free) → let a = c.args in Seeks a.model.now.n a.model.now.a a.model.now.b (row_numbers a.model.now.parameters.now) a.j c.loop-found.state.cells c.loop-found.state.owner (Free c.in-Free.column c.in-Free.row c.in-Free.depth)
free c = rw c.in-Free.is at c.loop-found.invariant.seeks

inside : (c : In-Free) → (c.in-Free.column < c.args.model.now.n) × (c.in-Free.row < c.args.model.now.a + c.args.model.now.b)
inside c =
    let given = c.requires.3 in
    found_below c.loop-found.invariant.arrays c.loop-found.invariant.holds (free c) given.0 given.2 given.1

-- and searches again
again : (c : After-search-found-in-Free) → let a = c.args in
    Arrays a.model.now.p a.model.now.n a.model.now.a a.model.now.b c.seat.new.state.cells c.seat.new.state.owner × Seeks a.model.now.n a.model.now.a a.model.now.b (row_numbers a.model.now.parameters.now) a.j c.seat.new.state.cells c.seat.new.state.owner c.search-found-in-Free.result
again c = (
  c.seat.ensures.0,
  seeks c.search-found-in-Free.result _ c.requires.2 (omega (arith, c.requires.0.lengths.columns)) (starts (goal.at.After-search-found-in-Free c).After-with-start) c.search-found-in-Free.ensures,
)

pub loop-found-init : goal.loop-found-init
loop-found-init c = record {
  arrays = c.requires.0;
  seeks = seeks c.search-found.result _ c.requires.2 (omega (arith, c.requires.0.lengths.columns)) (starts (goal.at.loop-found-init c).After-with-start) c.search-found.ensures;
  holds = holds_first;
}

pub take_row-requires : goal.take_row-requires
take_row-requires c =
    let w = c.loop-found.invariant.arrays in
    (w, c.requires.1, c.requires.2, (inside (goal.at.take_row-requires c).In-Free).1)

pub returns-then-depth-eq0 : goal.returns-then-depth-eq0
returns-then-depth-eq0 c =
    let v = c.loop-found.invariant in (
      c.take_row.ensures.0,
      λ G h e new. last_turn v.arrays v.holds (free (goal.at.returns-then-depth-eq0 c).In-Free) _ _ c.if-depth-eq0.true c.take_row.ensures.1 G h e new,
    )

pub seat-requires : goal.seat-requires
seat-requires c =
    let w = c.loop-found.invariant.arrays in
    let i = inside (goal.at.seat-requires c).In-Free in
    (w, c.requires.1, i.0, i.1)

pub loop-found-smaller : goal.loop-found-smaller
loop-found-smaller c =
    let v = c.loop-found.invariant in
    let given = c.requires.3 in
    let w = again (goal.at.loop-found-smaller c).After-search-found-in-Free in
    rw c.in-Free.is
    (omega (arith, turn_nearer v.arrays v.holds (free (goal.at.loop-found-smaller c).In-Free) (omega (arith, c.if-depth-eq0.false)) c.seat.ensures.1 w.0 w.1 given.0 given.2 given.1))

pub loop-found-preserved : goal.loop-found-preserved
loop-found-preserved c =
    let v = c.loop-found.invariant in
    let w = again (goal.at.loop-found-preserved c).After-search-found-in-Free in
    record {
      arrays = w.0;
      seeks = w.1;
      holds = turn_holds v.arrays v.holds (free (goal.at.loop-found-preserved c).In-Free) (omega (arith, c.if-depth-eq0.false)) c.seat.ensures.1;
    }

pub returns : goal.returns
returns c = let v = c.loop-found.invariant in (v.arrays, λ G h e new. blocked v.arrays v.holds (rw c.in_default.is at v.seeks) G h e)

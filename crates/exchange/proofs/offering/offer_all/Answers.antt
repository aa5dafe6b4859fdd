-- `exchange::offering::offer_all` meets its contract. Assumes nothing.
use Rattle.std.proofs.Common.{ℕ, arith, ◌≡◌, ◌≤◌, ap, false}
use Rattle.counting.specs.Sets.{Set, ◌∈◌}
use Rattle.columns.specs.Columns.{width, members}
use Rattle.columns.specs.ColumnSets.{whole}
use Rattle.columns.specs.Turns.{left}
use Rattle.columns.specs.Words.Sets.{empty_none}
use Rattle.columns.specs.Words.Operations.{least_first}
use Rattle.exchange.specs.Code.State.{rows_of, Completed}
use Rattle.exchange.specs.Code.Offering.{Offers}
use Rattle.exchange.specs.Code.Placing.{Placing}
use Rattle.exchange.proofs.OfferingLaws.{Offering, offering_start, offering_yes, offering_no, offering_done, next_below, next_offered, next_new}
use Rattle.exchange.proofs.offering.offer_all.Goals.{In-Some, After-place}
use Rattle.exchange.proofs.offering.offer_all.Goals as goal

-- the column that came
module _ (s : In-Some) (G : Completed s.args.model.now)
    (m : Offers s.args.model.now.p s.args.model.now.n s.args.model.now.a s.args.model.now.b (rows_of s.args.model.now) (members (whole s.args.offered)) s.args.state.now.cells s.args.state.now.owner G) where
  abbrev so_far : Offering s.args.model.now.p s.args.model.now.n s.args.model.now.a s.args.model.now.b (rows_of s.args.model.now) G s.loop-j.state.cells s.loop-j.state.owner (left s.loop-j.j-iterator) (members (whole s.loop-j.placed))
  so_far = s.loop-j.invariant.1 G m

  -- is the least of those that are left
  first : (x : ℕ) → x ∈ left s.loop-j.j-iterator → s.in-Some.j ≤ x
  first x e = rw s.in-Some.ensures.steps.first (least_first width _ x (omega (arith, ((so_far.left x).0 e).0, s.requires.0.lengths.columns)) e)

-- what placing it gives
placing : (c : After-place) → let s = (goal.at.After-place c).In-Some in let a = c.args in (G : Completed a.model.now)
    (m : Offers a.model.now.p a.model.now.n a.model.now.a a.model.now.b (rows_of a.model.now) (members (whole a.offered)) a.state.now.cells a.state.now.owner G)
    → Placing a.model.now.p a.model.now.n a.model.now.a a.model.now.b (rows_of a.model.now) G c.loop-j.state.cells c.loop-j.state.owner c.place.new.state.cells c.place.new.state.owner c.in-Some.j c.place.result (so_far s G m).held
placing c G m =
    let s = (goal.at.After-place c).In-Some in
    let d = so_far s G m in
    let there = s.in-Some.ensures.steps.there in
    c.place.ensures.1 G d.held (next_offered d _ there (first s G m)) (next_new d _ there (first s G m))

pub loop-j-init : goal.loop-j-init
loop-j-init c = (c.requires.0, λ G m. rw (c.into_iter-j-iterator.ensures.into_iter_gives, empty_none c.empty-placed.ensures) (offering_start m))

pub place-requires : goal.place-requires
place-requires c =
    let s = (goal.at.place-requires c).In-Some in
    let given = c.requires.2 in
    let d = so_far s given.0 given.1 in
    let there = s.in-Some.ensures.steps.there in
    let least = first s given.0 given.1 in
    (c.loop-j.invariant.0, c.requires.1, next_below d _ there least, (given.0, next_offered d _ there least, d.held))

pub loop-j-preserved-then-place : goal.loop-j-preserved-then-place
loop-j-preserved-then-place c =
    let k = (goal.at.loop-j-preserved-then-place c).After-place in
    let s = (goal.at.loop-j-preserved-then-place c).In-Some in
    let turn = s.in-Some.ensures.steps in
    rw (turn.others, c.with-placed.ensures) (
      c.place.ensures.0,
      λ G m. offering_yes (so_far s G m) _ turn.there (first s G m) (omega (arith, c.requires.0.lengths.columns)) c.if-place.true (placing k G m),
    )

pub loop-j-preserved : goal.loop-j-preserved
loop-j-preserved c =
    let k = (goal.at.loop-j-preserved c).After-place in
    let s = (goal.at.loop-j-preserved c).In-Some in
    let turn = s.in-Some.ensures.steps in
    rw turn.others (c.place.ensures.0, λ G m. offering_no (so_far s G m) _ turn.there (first s G m) c.if-place.false (placing k G m))

pub returns : goal.returns
returns c =
    let l = c.loop-j in
    (l.invariant.0, λ G m. offering_done (l.invariant.1 G m) (λ x e. let out : left l.j-iterator x ≡ false = ap (λ (S : Set). S x) c.in-None.ensures.steps.0 in (cc)))

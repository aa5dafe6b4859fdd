-- `blocks::list` meets its contract. Assumes nothing.
use Rattle.std.proofs.Common.{ℕ, ◌≡◌, ◌≢◌, ◌<◌, ◌∙◌, Bool, false, not, ◌&&◌, eqb, refl, sym, ap, arith}
use borrow.Author.Tests.{eqb-true, eqb-false}
use Rattle.counting.specs.Bools.{and_left}
use Rattle.counting.specs.Sets.{Set, ◌∈◌, ◌∩◌, ∁, #, Some, any}
use Rattle.counting.specs.Counts.{#-le}
use Rattle.columns.specs.Columns.{width, members, least}
use Rattle.columns.specs.ColumnSets.{whole}
use Rattle.columns.specs.Words.SetLaws.{least_there, removed_less}
use Rattle.relation.specs.Relations.{row_of}
use Rattle.blocks.specs.Code.{Ordered, NeedsShown}
use Rattle.blocks.proofs.ListLaws.{Listing, listing_start, listing_more, listing_done, watched_start, watched_wait, watched_listed, rest_below, some_awake, least_awake, in_room, fewer_left, few_rounds}
use Rattle.blocks.proofs.list.Goals.{After-is_empty-in-loop-waiting, After-difference-block}
use Rattle.blocks.proofs.list.Goals as goal

pub loop-waiting-init : goal.loop-waiting-init
loop-waiting-init c = let a = c.args in record {
  watched = watched_start a.needs.now (members (whole a.all));
  listing = λ n E b t h w. listing_start n E b t (members (whole a.all)) a.rows.now a.needs.now h w;
}

-- a set that is not empty has a column
some_in : (S : Set) (empty : Bool) → empty ≡ eqb (# width S) 0 → empty ≡ false → Some width (λ x. x ∈ S)
some_in S empty e n =
    let t = least_there width S (eqb-false _ 0 (sym e ∙ n)) in
    (_, t.0, t.1)

-- the least column of a set that has one is in it
first_in : (S : Set) (x : ℕ) → # width S ≢ 0 → x ≡ least width S → (x < width) × (x ∈ S)
first_in S x some e = rw e (least_there width S some)

-- a round, where its column is known and what it needs and is left
module _ (c : After-is_empty-in-loop-waiting) where
  so_far : let o = c.requires in Listing o.0 o.1 o.2 o.3 (members (whole c.args.all)) c.args.rows.now c.args.needs.now o.4 o.5 c.loop-waiting.k (members (whole c.loop-waiting.rest)) c.loop-waiting.numbers
  so_far = let o = c.requires in c.loop-waiting.invariant.listing o.0 o.1 o.2 o.3 o.4 o.5

  -- the column is awake
  there : (c.first-x.result < width) × (c.first-x.result ∈ members (whole c.loop-waiting.awake))
  there =
      let o = c.requires in
      let l = c.loop-waiting in
      first_in (members (whole l.awake)) _ (some_awake o.0 o.1 o.2 o.3 (members (whole c.args.all)) c.args.rows.now c.args.needs.now o.4 o.5 l.k (members (whole l.rest)) l.numbers so_far
      (some_in _ _ c.is_empty.ensures c.loop-waiting-test.true) (members (whole l.awake)) l.waiting l.invariant.watched) c.first-x.ensures

  missing_is : members (whole c.intersection-missing.result) ≡ members (whole c.loop-waiting.rest) ∩ row_of c.args.needs.now c.first-x.result
  missing_is = c.intersection-missing.ensures ∙ ap (λ (w : ℕ). members (whole c.loop-waiting.rest) ∩ members w) c.row-before.ensures

-- where nothing is, the column is the least that is permitted
module _ (c : After-difference-block) where
  abbrev rest : Set
  rest = members (whole c.loop-waiting.rest)

  abbrev columns : Set
  columns = members (whole c.args.all)

  left : Some width (λ x. x ∈ rest)
  left = some_in _ _ c.is_empty.ensures c.loop-waiting-test.true

  next_is : (n : ℕ) (E : Set) (b t : ℕ → ℕ → Bool) (h : Ordered n E b t columns c.args.rows.now) (w : NeedsShown n E b t c.args.needs.now)
      → c.first-x.result ≡ least width (λ x. rest x && not (any width (rest ∩ row_of c.args.needs.now x)))
  next_is n E b t h w =
      let l = c.loop-waiting in
      let missing : members (whole c.intersection-missing.result) ≡ rest ∩ row_of c.args.needs.now c.first-x.result = c.intersection-missing.ensures ∙ ap (λ (w : ℕ). rest ∩ members w) c.row-before.ensures in
      let none : # width (rest ∩ row_of c.args.needs.now c.first-x.result) ≡ 0 = ap (# width) (sym missing) ∙ eqb-true _ 0 (sym c.is_empty-in-loop-waiting.ensures ∙ c.if-is_empty.true) in
      least_awake n E b t columns c.args.rows.now c.args.needs.now h w l.k rest l.numbers (l.invariant.listing n E b t h w) left
      (members (whole l.awake)) l.waiting l.invariant.watched c.first-x.result c.first-x.ensures none

  -- the block is what stands in the row of the column and is not needed
  block_is : members (whole c.difference-block.result) ≡ row_of c.args.rows.now c.first-x.result ∩ ∁ (row_of c.args.needs.now c.first-x.result)
  block_is =
      c.difference-block.ensures ∙ ap (λ (w : ℕ). members w ∩ ∁ (members (whole c.row-before.result))) c.row.ensures
      ∙ ap (λ (w : ℕ). row_of c.args.rows.now c.first-x.result ∩ ∁ (members w)) c.row-before.ensures

pub number_block-requires : goal.number_block-requires
number_block-requires c =
    let d = (goal.at.number_block-requires c).After-difference-block in
    let listing = so_far (goal.at.number_block-requires c).After-is_empty-in-loop-waiting in
    let l = c.loop-waiting in
    let o = c.requires in
    λ x e. omega (arith, listing.long, in_room o.0 o.1 o.2 o.3 (columns d) c.args.rows.now c.args.needs.now o.4 o.5 l.k (rest d) l.numbers listing (left d) c.first-x.result (next_is d o.0 o.1 o.2 o.3 o.4 o.5) (members (whole c.difference-block.result)) (block_is d) x e)

pub overflow_add-k : goal.overflow_add-k
overflow_add-k c =
    let d = (goal.at.overflow_add-k c).After-difference-block in
    let listing = so_far (goal.at.overflow_add-k c).After-is_empty-in-loop-waiting in
    let l = c.loop-waiting in
    let o = c.requires in
    omega (arith, few_rounds o.0 o.1 o.2 o.3 (columns d) c.args.rows.now c.args.needs.now o.4 o.5 l.k (rest d) l.numbers listing (left d) c.first-x.result (next_is d o.0 o.1 o.2 o.3 o.4 o.5) (members (whole c.difference-block.result)) (block_is d))

pub loop-waiting-smaller-then-is_empty : goal.loop-waiting-smaller-then-is_empty
loop-waiting-smaller-then-is_empty c =
    let d = (goal.at.loop-waiting-smaller-then-is_empty c).After-difference-block in
    let e = (goal.at.loop-waiting-smaller-then-is_empty c).After-is_empty-in-loop-waiting in
    let l = c.loop-waiting in
    let o = c.requires in
    let fewer = fewer_left o.0 o.1 o.2 o.3 (columns d) c.args.rows.now c.args.needs.now o.4 o.5 l.k (rest d) l.numbers (so_far e) (left d) c.first-x.result (next_is d o.0 o.1 o.2 o.3 o.4 o.5) (members (whole c.difference-block.result)) (block_is d) width (there e).0 in
    let less : # width (members (whole c.difference-rest.result)) < # width (rest d) = rw c.difference-rest.ensures fewer in
    omega (arith, less, #-le width (members (whole c.intersection-awake.result)))

pub loop-waiting-preserved-then-is_empty : goal.loop-waiting-preserved-then-is_empty
loop-waiting-preserved-then-is_empty c =
    let d = (goal.at.loop-waiting-preserved-then-is_empty c).After-difference-block in
    let l = c.loop-waiting in
    let a = c.args in
    let S = members (whole c.difference-block.result) in
    rw (c.intersection-awake.ensures, c.union.ensures, c.difference-rest.ensures) (record {
      watched = watched_listed a.needs.now (rest d) (members (whole l.awake)) S (members (whole c.woken.result)) l.waiting l.invariant.watched c.woken.ensures;
      listing = λ n E b t h w. listing_more n E b t (columns d) a.rows.now a.needs.now h w l.k (rest d) l.numbers (l.invariant.listing n E b t h w) (left d)
          c.first-x.result (next_is d n E b t h w) S (block_is d) c.number_block.new.numbers c.number_block.ensures;
    })

pub loop-waiting-smaller : goal.loop-waiting-smaller
loop-waiting-smaller c =
    let w = there (goal.at.loop-waiting-smaller c).After-is_empty-in-loop-waiting in
    let less : # width (members (whole c.without-awake.result)) < # width (members (whole c.loop-waiting.awake)) = rw c.without-awake.ensures (removed_less width _ _ w.0 w.1) in
    omega (arith, less)

pub loop-waiting-preserved : goal.loop-waiting-preserved
loop-waiting-preserved c =
    let e = (goal.at.loop-waiting-preserved c).After-is_empty-in-loop-waiting in
    let l = c.loop-waiting in
    let a = c.args in
    let o = c.requires in
    let left_over = members (whole l.rest) in
    let missing = members (whole c.intersection-missing.result) in
    let it : c.first.result ∈ missing = (first_in missing _ (eqb-false _ 0 (sym c.is_empty-in-loop-waiting.ensures ∙ c.if-is_empty.false)) c.first.ensures).1 in
    let needed : c.first.result ∈ left_over ∩ row_of a.needs.now c.first-x.result = sym (ap (λ (S : Set). S c.first.result) (missing_is e)) ∙ it in
    rw c.without-awake.ensures (record {
      watched = watched_wait a.needs.now left_over (members (whole l.awake)) l.waiting c.wait.new.waiting c.first-x.result c.first.result l.invariant.watched (there e).0
          (rest_below o.0 o.1 o.2 o.3 (members (whole a.all)) a.rows.now a.needs.now o.4 o.5 l.k left_over l.numbers (so_far e) c.first.result (and_left _ _ needed)) needed c.wait.ensures;
      listing = l.invariant.listing;
    })

pub returns : goal.returns
returns c =
    let l = c.loop-waiting in
    let gone : # width (members (whole l.rest)) ≡ 0 = eqb-true _ 0 (sym c.is_empty.ensures ∙ c.loop-waiting-test.false) in
    λ n E b t h w. listing_done n E b t (members (whole c.args.all)) c.args.rows.now c.args.needs.now h w l.k (members (whole l.rest)) l.numbers (l.invariant.listing n E b t h w) gone _ refl refl refl

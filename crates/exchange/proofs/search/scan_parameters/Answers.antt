-- `exchange::search::scan_parameters` meets its contract. Assumes nothing.
use Rattle.std.proofs.Common.{◌≡◌, ◌+◌, ◌-◌, ◌<◌, ◌≤◌, ℕ, true, ap, ◌∙◌, arith}
use native.Mathlib.Decide.{dec_lt}
use Rattle.std.proofs.Math.ListN.{get_or}
use Rattle.counting.specs.Bools.{and_left, and_right}
use Rattle.counting.specs.Sets.{Set, ◌∈◌, ◌∩◌, touching}
use Rattle.counting.specs.Counts.{touching_iff}
use Rattle.columns.specs.Columns.{width, members, inserted, least, last_member}
use Rattle.columns.specs.ColumnSets.{whole, row_numbers, rows_touching}
use Rattle.columns.specs.Words.Sets.{columns_below, empty_none}
use Rattle.columns.specs.Words.SetLaws.{least_any, LastMember, last_member_reads}
use Rattle.exchange.specs.Code.Scanning.{owner_at}
use Rattle.exchange.specs.Code.State.{lines_of, touched_by}
use Rattle.exchange.proofs.ScanningLaws.{touched_row, not_touched_apart, owned_start, owned_past, owned_more}
use borrow.Author.Rules.{rules}
use Rattle.exchange.proofs.search.scan_parameters.Goals.{After-last_touching-r}
use Rattle.exchange.proofs.search.scan_parameters.Goals as goal

-- the row is the last below `end` that touches the set
last_one : (c : After-last_touching-r) → LastMember c.loop-end.end c.last_touching-r.result (rows_touching (row_numbers c.args.model.now.parameters.now) (members (whole c.args.front)))
last_one c = is_last _ _ _ c.last_touching-r.ensures
  where
    is_last : (n k : ℕ) (S : Set) → k ≡ last_member n n S → LastMember n k S
    is_last n k S e = rw e (last_member_reads n S)

-- no row between it and `end` touches a column of the set
between : (c : After-last_touching-r) (q x : ℕ) → let a = c.args in
    a.model.now.a ≤ q → q < a.model.now.a + c.loop-end.end → (c.last_touching-r.result < c.loop-end.end → a.model.now.a + c.last_touching-r.result < q) → x ∈ members (whole a.front)
    → touched_by a.model.now a.state.now q x ≡ true → ⊥
between c q x l m later i =
    let a = c.args in
    let e = c.loop-end.end in
    let r = c.last_touching-r.result in
    not_touched_apart a.model.now.a a.state.now.cells (row_numbers a.model.now.parameters.now) q (members (whole a.front)) x l
    (elim (dec_lt r e) [
      | yes lr ↦ (last_one c).last lr (q - a.model.now.a) (omega (arith, later lr)) (omega arith)
      | no nr ↦ (last_one c).no_member (omega arith) (q - a.model.now.a) (omega arith)
    ])
    (columns_below a.front x (search (rules, c.well_formed)) i) i

pub loop-end-init : goal.loop-end-init
loop-end-init c = record { room = omega arith; read = owned_start _ _ _ _ _ _ _ (empty_none c.empty-next.ensures) }

pub returns-then-r-end : goal.returns-then-r-end
returns-then-r-end c =
    let a = c.args in
    let k = (goal.at.returns-then-r-end c).After-last_touching-r in
    owned_past _ _ _ _ _ _ a.model.now.a (a.model.now.a + c.loop-end.end) (lines_of a.model.now) (λ q x l m e. between k q x l m (λ s. absurd (omega arith)) e) c.loop-end.invariant.read

pub returns-then-y-model : goal.returns-then-y-model
unfolding touching
returns-then-y-model c =
    let a = c.args in
    let ws = row_numbers a.model.now.parameters.now in
    let F = members (whole a.front) in
    let r = c.last_touching-r.result in
    let common = F ∩ members (get_or ws r 0) in
    let there = least_any width common ((last_one (goal.at.returns-then-y-model c).After-last_touching-r).inside (omega arith)) in
    let x = c.first.result in
    let is_least : x ≡ least width common = c.first.ensures ∙ ap (least width) (c.intersection-common.ensures ∙ ap (λ (w : ℕ). F ∩ members w) c.row.ensures) in
    let inside : x ∈ common = rw is_least there.1 in
    record {
      below = omega (arith, c.loop-end.invariant.room);
      inside = and_left (F x) _ inside;
      touches = touched_row a.model.now.a a.state.now.cells ws r x (and_right (F x) _ inside);
      is_free = omega (arith, c.from-y.ensures);
    }

pub loop-end-preserved : goal.loop-end-preserved
loop-end-preserved c =
    let k = (goal.at.loop-end-preserved c).After-last_touching-r in
    let a = c.args in
    let ws = row_numbers a.model.now.parameters.now in
    let o = owner_at a.state.now.owner in
    let F = members (whole a.front) in
    let old = members (whole c.loop-end.next) in
    let r = c.last_touching-r.result in
    let q = a.model.now.a + r in
    let e : members (whole c.with-next.result) ≡ inserted old (o q) = c.with-next.ensures ∙ ap (inserted old) c.from-y.ensures in
    let some = (touching_iff width (λ i. members (get_or ws i 0)) F r).0 ((last_one k).inside (omega arith)) in
    record {
      room = omega (arith, c.loop-end.invariant.room);
      read = rw e (owned_more a.model.now.n (lines_of a.model.now) (touched_by a.model.now a.state.now) o F old some.0 q (lines_of a.model.now) (omega arith) some.2.0 (omega (arith, c.loop-end.invariant.room))
          (touched_row a.model.now.a a.state.now.cells ws r some.0 some.2.1) (omega (arith, c.from-y.ensures))
          (owned_past a.model.now.n (lines_of a.model.now) (touched_by a.model.now a.state.now) o F old (q + 1) (a.model.now.a + c.loop-end.end) (lines_of a.model.now) (λ i x li mi f. between k i x (omega arith) mi (λ s. omega arith) f) c.loop-end.invariant.read));
    }

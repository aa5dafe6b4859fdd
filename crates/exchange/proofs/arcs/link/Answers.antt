-- `exchange::arcs::link` meets its contract. Assumes nothing.
use Rattle.std.proofs.Common.{◌≡◌, ◌↔◌, ◌<◌, ◌&&◌, true, ℕ, sym, ap, ◌∙◌, rules}
use Rattle.counting.specs.Bools.{and_in, and_left, and_right}
use Rattle.counting.specs.Sets.{Set, ◌∈◌}
use Rattle.columns.specs.Columns.{members}
use Rattle.columns.specs.ColumnSets.{whole, row_numbers}
use Rattle.columns.specs.Words.Operations.{within_iff}
use Rattle.columns.specs.Words.Sets.{columns_below, empty_none}
use Rattle.exchange.specs.Code.Scanning.{touched, owner_at}
use Rattle.exchange.proofs.ArcLaws.{linked_none, linked_more}
use Rattle.exchange.proofs.arcs.link.Goals as goal

pub loop-q-init : goal.loop-q-init
loop-q-init c = rw (empty_none c.empty-ends.ensures) (linked_none _ _ _ _ _)

pub loop-q-preserved : goal.loop-q-preserved
loop-q-preserved c =
    let l = c.loop-q in
    let a = c.args in
    let tch = touched a.model.now.a a.state.now.cells (row_numbers a.model.now.parameters.now) in
    let offered = members (whole a.offered) in
    let touching = members (whole c.intersection-touching.result) in
    let below : (x : ℕ) → x ∈ offered → x < a.model.now.n = λ x e. (within_iff a.model.now.n (whole a.offered)).0 c.requires.1 x (columns_below a.offered x (search (rules, c.well_formed)) e) e in
    let is_own : c.from-y.result ≡ owner_at a.state.now.owner l.q = c.from-y.ensures in
    let row = members (whole c.row_touches.result) in
    let at : (x : ℕ) → touching x ≡ (row x && offered x) = λ x. ap (λ (S : Set). S x) c.intersection-touching.ensures in
    let same : (x : ℕ) → (x ∈ touching) ↔ ((x ∈ offered) × (tch l.q x ≡ true)) = λ x. (
      (λ e. let w : (row x && offered x) ≡ true = sym (at x) ∙ e in let o : x ∈ offered = and_right (row x) (offered x) w in (o, sym (c.row_touches.ensures x (below x o)) ∙ and_left (row x) (offered x) w)),
      λ w. at x ∙ and_in (c.row_touches.ensures x (below x w.0) ∙ w.1) w.0,
    ) in
    linked_more a.model.now.n tch (owner_at a.state.now.owner) offered l.q a.into.now l.into c.note-ends.new.into (members (whole l.ends)) (members (whole c.note-ends.result)) touching l.invariant same
    (rw is_own at c.note-ends.ensures)

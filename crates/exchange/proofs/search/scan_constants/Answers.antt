-- `exchange::search::scan_constants` meets its contract. Assumes nothing.
use Rattle.std.proofs.Common.{ℕ, ◌≡◌, ◌+◌, ◌-◌, ap, ◌∙◌, inl, inr, arith}
use mathlib.Core.Logic.{⊎_elim}
use native.Mathlib.Decide.{ℕ_discrete}
use Rattle.counting.specs.Sets.{◌∈◌}
use Rattle.columns.specs.Columns.{members, inserted}
use Rattle.columns.specs.ColumnSets.{whole}
use Rattle.columns.specs.Turns.{left}
use Rattle.columns.specs.Words.Sets.{empty_none}
use Rattle.columns.specs.Words.SetLaws.{removed_old, removed_other, nothing_in_none}
use Rattle.exchange.specs.Code.Cells.{cell}
use Rattle.exchange.specs.Code.Scanning.{owner_at}
use Rattle.exchange.specs.Code.State.{rows_of, touched_by, owned_by}
use Rattle.exchange.proofs.ScanningLaws.{touched_nonzero, not_touched_zero, owned_start, owned_past, owned_more}
use Rattle.exchange.proofs.search.scan_constants.Goals as goal

pub loop-q-init : goal.loop-q-init
loop-q-init c = owned_start _ _ _ _ _ _ _ (empty_none c.empty-next.ensures)

pub loop-x-preserved : goal.loop-x-preserved
loop-x-preserved c =
    let turn = c.in-Some.ensures.steps in
    let R = left c.loop-x.x-iterator in
    let h = c.loop-x.invariant in
    rw turn.others (record {
      owned = h.owned;
      inside = λ y e. h.inside y (removed_old R c.in-Some.x y e);
      gone = λ y e. ⊎_elim (λ m. elim (ℕ_discrete y c.in-Some.x) [ yes d ↦ inr (rw d c.if-state-i-ne0.false) | no nd ↦ inl (removed_other R c.in-Some.x y m nd) ]) (λ z. inr z) (h.gone y e);
    })

pub returns-then-y-model : goal.returns-then-y-model
returns-then-y-model c =
    let a = c.args in
    let q = c.loop-q.q - 1 in
    record {
      below = omega arith;
      inside = c.loop-x.invariant.inside _ c.in-Some.ensures.steps.there;
      touches = touched_nonzero a.model.now.a a.state.now.cells (rows_of a.model.now) q c.in-Some.x (omega arith) c.if-state-i-ne0.true;
      is_free = omega (arith, c.from-y.ensures);
    }

pub loop-q-preserved : goal.loop-q-preserved
loop-q-preserved c =
    let a = c.args in
    let q = c.loop-q.q - 1 in
    let e : members (whole c.with-next.result) ≡ inserted (members (whole c.loop-x.next)) (owner_at a.state.now.owner q) = c.with-next.ensures ∙ ap (inserted (members (whole c.loop-x.next))) c.from-y.ensures in
    rw e (owned_more a.model.now.n _ (touched_by a.model.now a.state.now) (owned_by a.state.now) _ _ c.in-Some.x q a.model.now.a (omega arith)
    (c.loop-x.invariant.inside _ c.in-Some.ensures.steps.there) (omega arith)
    (touched_nonzero a.model.now.a a.state.now.cells (rows_of a.model.now) q c.in-Some.x (omega arith) c.if-state-i-ne0.true) (omega (arith, c.from-y.ensures)) c.loop-x.invariant.owned)

pub loop-q-preserved-in-None : goal.loop-q-preserved-in-None
loop-q-preserved-in-None c =
    let a = c.args in
    let q = c.loop-q.q - 1 in
    let zero : (x : ℕ) → x ∈ members (whole a.front) → cell a.state.now.cells q x ≡ 0 =
    λ x e. ⊎_elim (λ m. absurd (nothing_in_none _ c.in-None.ensures.steps.0 x m)) (λ z. z) (c.loop-x.invariant.gone x e) in
    owned_past a.model.now.n _ (touched_by a.model.now a.state.now) (owned_by a.state.now) _ _ q (q + 1) a.model.now.a
    (λ i x li ki e. let d : i ≡ q = omega arith in not_touched_zero a.model.now.a a.state.now.cells (rows_of a.model.now) i x (omega arith) (rw d (zero x e))) c.loop-x.invariant.owned

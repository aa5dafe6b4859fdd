-- The low word is all of the set; a row that touches it is the last, and another may be left out. Assumes nothing.
use Rattle.std.proofs.Common.{ℕ, List, arith, ◌≡◌, sym, ap, ◌∙◌}
use Rattle.columns.specs.Columns.{members, last_member}
use Rattle.columns.specs.ColumnSets.{whole, rows_touching}
use Rattle.columns.specs.Words.SetLaws.{last_found, last_passed}
use Rattle.columns.specs.declared.ColumnSet.{ColumnSet}
use Rattle.columns.proofs.last_below_low.Goals as goal

all_low : (s : ColumnSet) → s.high ≡ 0 → s.low ≡ whole s
unfolding whole
all_low s e = omega (arith, e)

-- what is found by the low word is found by the set
by_low : (ws : List ℕ) (s : ColumnSet) (d n : ℕ) → s.high ≡ 0 → last_member d n (rows_touching ws (members s.low)) ≡ last_member d n (rows_touching ws (members (whole s)))
by_low ws s d n e = ap (λ (w : ℕ). last_member d n (rows_touching ws (members w))) (all_low s e)

pub returns-then-low_touches : goal.returns-then-low_touches
returns-then-low_touches c =
    sym (
    c.loop-r.invariant.same
    ∙ last_found _ _ _ _ (omega arith) (sym c.low_touches.ensures ∙ c.if-low_touches.true)
    )
    ∙ by_low _ c.args.set _ _ c.requires.1

pub returns-then-low_touches-2 : goal.returns-then-low_touches-2
returns-then-low_touches-2 c =
    sym (
    c.loop-r.invariant.same
    ∙ last_passed _ _ _ _ (omega arith) (sym c.low_touches.ensures ∙ c.if-low_touches.false)
    ∙ last_found _ _ _ _ (omega arith) (sym c.low_touches-in-loop-r.ensures ∙ c.if-low_touches-2.true)
    )
    ∙ by_low _ c.args.set _ _ c.requires.1

pub returns-then-low_touches-3 : goal.returns-then-low_touches-3
returns-then-low_touches-3 c =
    sym (
    c.loop-r.invariant.same
    ∙ last_passed _ _ _ _ (omega arith) (sym c.low_touches.ensures ∙ c.if-low_touches.false)
    ∙ last_passed _ _ _ _ (omega arith) (sym c.low_touches-in-loop-r.ensures ∙ c.if-low_touches-2.false)
    ∙ last_found _ _ _ _ (omega arith) (sym c.low_touches-in-loop-r-2.ensures ∙ c.if-low_touches-3.true)
    )
    ∙ by_low _ c.args.set _ _ c.requires.1

pub returns-then-low_touches-4 : goal.returns-then-low_touches-4
returns-then-low_touches-4 c =
    sym (
    c.loop-r.invariant.same
    ∙ last_passed _ _ _ _ (omega arith) (sym c.low_touches.ensures ∙ c.if-low_touches.false)
    ∙ last_passed _ _ _ _ (omega arith) (sym c.low_touches-in-loop-r.ensures ∙ c.if-low_touches-2.false)
    ∙ last_passed _ _ _ _ (omega arith) (sym c.low_touches-in-loop-r-2.ensures ∙ c.if-low_touches-3.false)
    ∙ last_found _ _ _ _ (omega arith) (sym c.low_touches-in-loop-r-3.ensures ∙ c.if-low_touches-4.true)
    )
    ∙ by_low _ c.args.set _ _ c.requires.1

pub loop-r-preserved : goal.loop-r-preserved
loop-r-preserved c = record {
  inside = omega arith;
  same =
      c.loop-r.invariant.same
      ∙ last_passed _ _ _ _ (omega arith) (sym c.low_touches.ensures ∙ c.if-low_touches.false)
      ∙ last_passed _ _ _ _ (omega arith) (sym c.low_touches-in-loop-r.ensures ∙ c.if-low_touches-2.false)
      ∙ last_passed _ _ _ _ (omega arith) (sym c.low_touches-in-loop-r-2.ensures ∙ c.if-low_touches-3.false)
      ∙ last_passed _ _ _ _ (omega arith) (sym c.low_touches-in-loop-r-3.ensures ∙ c.if-low_touches-4.false);
}

pub returns : goal.returns
returns c = c.last_below.ensures ∙ sym (by_low _ c.args.set _ _ c.requires.1) ∙ sym c.loop-r.invariant.same ∙ by_low _ c.args.set _ _ c.requires.1

-- `exchange::reduce` meets its contract: the tableau shows the constants, `reduce_rows` reduces its rows, and they are copied back. Assumes nothing.
use Rattle.std.proofs.Common.{◌≡◌, true, refl, sym, ap, ◌∙◌, arith}
use mathlib.Core.Bool.{true≢false}
use Rattle.rank.specs.Modulus.{modulus, residue_of}
use Rattle.rank.specs.ListedModel.{constant_at}
use Rattle.exchange.specs.Reduction.{reducible}
use Rattle.exchange.proofs.AdmissionLaws.{filled_tableau}
use Rattle.exchange.proofs.ReductionLaws.{Reducible, reducible_reads, rows_shown}
use Rattle.exchange.proofs.reduce.Goals.{Else-not-is_reducible}
use Rattle.exchange.proofs.reduce.Goals as goal

taken : (c : Else-not-is_reducible) → let a = c.args in reducible a.p a.n a.a a.weights.now a.levels.now a.constants.now ≡ true
taken c = sym c.is_reducible.ensures ∙ c.if-not-is_reducible.false

good : (c : Else-not-is_reducible) → let a = c.args in Reducible a.p a.n a.a a.weights.now a.levels.now a.constants.now
good c = reducible_reads _ _ _ _ _ _ (taken c)

pub fill-requires : goal.fill-requires
fill-requires c =
    let f = (good (goal.at.fill-requires c).Else-not-is_reducible).admitted.fits in
    (refl, f.columns, f.constant_rows, f.constants_lent)

pub overflow_cast-admitted : goal.overflow_cast-admitted
overflow_cast-admitted c = omega (arith, (good (goal.at.overflow_cast-admitted c).Else-not-is_reducible).admitted.short_prime)

pub reduce_rows-requires : goal.reduce_rows-requires
reduce_rows-requires c =
    let g = good (goal.at.reduce_rows-requires c).Else-not-is_reducible in
    let m = g.admitted in
    (filled_tableau _ _ _ _ _ _ _ _ m c.fill.ensures.0 c.fill.ensures.1, c.inverses_of.ensures, m.fits.columns, m.fits.constant_rows, g.weighed, g.levelled, m.prime)

pub copy_back-requires : goal.copy_back-requires
copy_back-requires c =
    let f = (good (goal.at.copy_back-requires c).Else-not-is_reducible).admitted.fits in
    (c.reduce_rows.ensures.0.full, f.columns, f.constant_rows, f.constants_lent)

pub returns : goal.returns
returns c =
    let a = c.args in
    let e = taken (goal.at.returns c).Else-not-is_reducible in
    let w = c.reduce_rows.ensures in
    record {
      is_valid = sym e;
      if_not = λ z. absurd (true≢false (sym e ∙ z));
      if_valid = λ z. rows_shown a.p a.n a.a (good (goal.at.returns c).Else-not-is_reducible).admitted.prime _ c.reduce_rows.new.t a.constants.now _ w.0.below
          (w.1 (constant_at (modulus a.p).0 (modulus a.p).1 a.n a.constants.now) (λ i x li lx. ap (residue_of a.p) (c.fill.ensures.1.done i x li lx))) c.copy_back.ensures;
    }

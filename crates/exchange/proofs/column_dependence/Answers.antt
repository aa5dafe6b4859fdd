-- `exchange::column_dependence` meets its contract: the tableau shows the constants, and `read_column` does the rest. Assumes nothing.
use Rattle.std.proofs.Common.{◌≡◌, ℕ, ◌<◌, true, refl, sym, ap, ◌∙◌, arith, List, []}
use Rattle.counting.specs.Bools.{and_left, and_right}
use borrow.Author.Tests.{ltb-true}
use Rattle.columns.specs.ColumnSets.{whole}
use Rattle.rank.specs.Modulus.{modulus, residue_of}
use Rattle.rank.specs.ListedModel.{constant_at}
use Rattle.models.specs.Lent.{constants_lent}
use Rattle.exchange.specs.DependenceCall.{askable}
use Rattle.exchange.specs.SolveLaws.{Admissible, admissible_reads}
use Rattle.exchange.proofs.AdmissionLaws.{fresh}
use Rattle.exchange.proofs.column_dependence.Goals.{Else-not-is_askable}
use Rattle.exchange.proofs.column_dependence.Goals as goal

record Askable (p n a held x : ℕ) (cs : List ℕ) : Type 0 where
  admitted : Admissible p n a 0 held cs []
  below : x < n

askable_reads : (p n a held x : ℕ) (cs : List ℕ) → askable p n a held x cs ≡ true → Askable p n a held x cs
unfolding askable
askable_reads p n a held x cs e = record {
  admitted = admissible_reads p n a 0 held cs [] (and_left _ _ e);
  below = ltb-true x n (and_right _ _ e);
}

taken : (c : Else-not-is_askable) → let m = c.args.model.now in askable m.p m.n m.a (whole c.args.held) c.args.x (constants_lent m) ≡ true
taken c = sym c.is_askable.ensures ∙ c.if-not-is_askable.false

good : (c : Else-not-is_askable) → let m = c.args.model.now in Askable m.p m.n m.a (whole c.args.held) c.args.x (constants_lent m)
good c = askable_reads _ _ _ _ _ _ (taken c)

pub fill-requires : goal.fill-requires
fill-requires c =
    let f = (good (goal.at.fill-requires c).Else-not-is_askable).admitted.fits in
    (refl, f.columns, f.constant_rows, f.constants_lent)

pub overflow_cast-admitted : goal.overflow_cast-admitted
overflow_cast-admitted c = omega (arith, (good (goal.at.overflow_cast-admitted c).Else-not-is_askable).admitted.short_prime)

pub overflow_cast-state : goal.overflow_cast-state
overflow_cast-state c = omega (arith, (good (goal.at.overflow_cast-state c).Else-not-is_askable).admitted.fits.columns)

pub read_column-requires : goal.read_column-requires
read_column-requires c =
    let g = good (goal.at.read_column-requires c).Else-not-is_askable in
    (fresh _ _ g.admitted c.fill.ensures.0 c.fill.ensures.1 refl c.inverses_of.ensures, refl, g.admitted.inside, g.below)

pub returns : goal.returns
returns c =
    let m = c.args.model.now in record {
      is_askable = taken (goal.at.returns c).Else-not-is_askable;
      is_shown = c.read_column.ensures (constant_at (modulus m.p).0 (modulus m.p).1 m.n (constants_lent m)) (λ i x li lx. ap (residue_of m.p) (c.fill.ensures.1.done i x li lx));
    }

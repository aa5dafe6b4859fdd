-- The law of the largest constant: it is below p exactly where all are; and the tableau of a model that is taken. Assumes nothing.
use Prim.Native.Nat.{ℕ, ◌*◌, ◌<◌, ◌≤◌, ◌^◌}
use mathlib.Core.Path.{◌≡◌, refl, sym, ap, ◌∙◌}
use mathlib.Core.Bool.{Bool, true}
use mathlib.Core.Logic.{◌↔◌, inl, inr}
use mathlib.Core.List.{List, []}
use native.Mathlib.Omega.{arith}
use lib.Dec.{ltb}
use lib.ListN.{length, take, replicate, length-replicate}
use Rattle.std.proofs.lemmas.List.{get_or-take, length-take-le}
use borrow.Author.Tests.{lt-ltb, ltb-true}
use Rattle.residue.specs.Primes.{is_prime_reads}
use Rattle.counting.specs.Bools.{iff_eq}
use Rattle.residue.specs.Arithmetic.{InverseTable}
use Rattle.exchange.specs.Sizes.{cells, lines}
use Rattle.counting.specs.Sets.{Set, ◌∈◌}
use Rattle.columns.specs.Columns.{width, members}
use Rattle.columns.specs.ColumnSets.{whole, empty_set, row_numbers}
use Rattle.columns.specs.Words.Operations.{within_iff, members_below}
use Rattle.columns.specs.declared.ColumnSet.{ColumnSet}
use Rattle.rank.specs.Modulus.{modulus, field_of, residue_of}
use Rattle.rank.specs.Layered.Model.{Model}
use Rattle.listed_models.specs.ModelModulo.{model_modulo}
use Rattle.exchange.specs.Solve.{all_below, admissible, Shown}
use Rattle.exchange.specs.SolveLaws.{all_below_iff, Admissible, admissible_reads}
use Rattle.exchange.specs.Code.Admission.{Largest}
use Rattle.exchange.specs.Code.Cells.{TableauArray, Filled}
use Rattle.exchange.specs.Code.State.{Fresh}
use Rattle.exchange.specs.declared.state.Admitted.{Admitted}
use Rattle.exchange.specs.declared.state.State.{State}
use Rattle.exchange.specs.Code.Held.{Given, model_of, ShowsConstants}
use Rattle.exchange.proofs.CellLaws.{zeros_below, filled_below}

pub below_largest : (p k top : ℕ) (cs : List ℕ) → 0 < p → Largest cs k top → ltb top p ≡ all_below p k cs
below_largest p k top cs pos h = iff_eq (ltb top p) (all_below p k cs)
    (λ e. (all_below_iff p k cs).1 (λ i l. omega (arith, ltb-true top p e, h.most i l)))
    (λ e. lt-ltb top p (elim h.one [ inl z ↦ omega arith | inr w ↦ omega (arith, (all_below_iff p k cs).0 e w.0 w.1, w.2) ]))

-- the same of the largest of the first k alone
pub taken_below_largest : (p k top : ℕ) (cs : List ℕ) → 0 < p → k ≤ length cs → Largest (take k cs) (length (take k cs)) top → ltb top p ≡ all_below p k cs
taken_below_largest p k top cs pos lk h =
    let long = length-take-le k cs lk in
    iff_eq (ltb top p) (all_below p k cs)
    (λ e. (all_below_iff p k cs).1 (λ i l. omega (arith, ltb-true top p e, h.most i (omega (arith, long)), get_or-take k cs i 0 l)))
    (λ e. lt-ltb top p (elim h.one [
      | inl z ↦ omega arith
      | inr w ↦ let l : w.0 < k = omega (arith, long, w.1) in omega (arith, (all_below_iff p k cs).0 e w.0 l, get_or-take k cs w.0 0 l, w.2)
    ]))

-- the tableau is filled with the constants of a model that is taken
pub filled_tableau : (p n a b offered : ℕ) (cs ws u : List ℕ) → Admissible p n a b offered cs ws → length u ≡ cells → Filled n a cs (replicate cells 0) u → TableauArray p u
filled_tableau p n a b offered cs ws u g l f = record {
  full = l;
  below = filled_below p n a cs (replicate cells 0) u (omega (arith, g.fits.columns)) g.fits.constants_lent ((all_below_iff p (a * n) cs).0 g.low)
      (zeros_below p cells (omega (arith, ((is_prime_reads p).0 g.prime).least))) f;
}

-- the state that it begins with, in which no row is owned
pub fresh : (m : Admitted) (s : State) {offered : ℕ} {cs ws : List ℕ} → Admissible m.p m.n m.a m.b offered cs ws → length s.cells ≡ cells → Filled m.n m.a cs (replicate cells 0) s.cells
    → s.owner ≡ replicate lines m.n → InverseTable m.p m.inverses.now → Fresh m s
fresh m s g l f e h =
    let t = filled_tableau m.p m.n m.a m.b _ _ _ s.cells g l f in
    record {
      ready = record {
        lengths = record {
          tableau = l;
          owners = rw e (length-replicate lines m.n);
          columns = g.fits.columns;
          constant_rows = g.fits.constant_rows;
          constants_among = omega arith;
          all_rows = omega (arith, g.fits.constant_rows, g.fits.parameter_rows);
        };
        below = t.below;
        prime = g.prime;
      };
      inverses = h;
      parameter_rows = g.fits.parameter_rows;
      free = e;
    }

-- the empty area has no parameter row, and the empty set no column
pub no_parameters : (p n a held : ℕ) (cs : List ℕ) → admissible p n a 0 held cs (row_numbers []) ≡ admissible p n a 0 held cs []
unfolding row_numbers
no_parameters p n a held cs = refl

pub constants_admitted : (p n a : ℕ) (cs : List ℕ) (s : ColumnSet) → s ≡ empty_set → admissible p n a 0 (whole s) cs (row_numbers []) ≡ admissible p n a 0 0 cs []
unfolding row_numbers whole empty_set
constants_admitted p n a cs s e = ap (λ z. admissible p n a 0 (whole z) cs []) e

-- an admissible model, of which the tableau u is filled with the constants
module _ (p n a b offered : ℕ) (cs ws : List ℕ) (e : admissible p n a b offered cs ws ≡ true) where
  pub admitted : Admissible p n a b offered cs ws
  admitted = admissible_reads p n a b offered cs ws e

  -- its offered columns are below n
  pub offered_below : offered < 2 ^ width → (x : ℕ) → x ∈ members offered → x < n
  offered_below f x m = (within_iff n offered).0 admitted.inside x (members_below offered x f m) m

  -- what holds of each model whose constants u shows holds of each that the numbers show
  pub of_shown : (u : List ℕ) → Filled n a cs (replicate cells 0) u → offered < 2 ^ width → (P : Model → Type 0)
      → ((G : Given p n b ws) → ShowsConstants p n a b ws G u → ((x : ℕ) → (x ∈ members offered) ↔ ((x < n) × (x ∈ G.E))) → P (model_of p n a b ws G))
      → (Q : ℕ → ℕ → (field_of p).F) (T : ℕ → ℕ → Bool) (E : Set) → Shown p n a b offered cs ws Q T E → P (model_modulo (modulus p).0 (modulus p).1 n a b Q T E)
  of_shown u f small P h Q T E m =
      h (record { Q = Q; T = T; E = E; parameters = m.parameters }) (λ i x li lx. ap (residue_of p) (f.done i x li lx) ∙ sym (m.constants i x li lx))
      (λ x. ((λ z. let l = offered_below small x z in (l, m.columns x l ∙ z)), λ w. sym (m.columns x w.0) ∙ w.1))

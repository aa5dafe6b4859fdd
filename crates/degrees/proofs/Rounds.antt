-- From round to round: how the descent starts, goes on and ends. Assumes nothing.
use Rattle.std.specs.Prelude.{◌*◌, ◌+◌, ◌<◌, ℕ, ◌≤◌, ◌≢◌, ◌≡◌}
use Rattle.std.proofs.Common.{⊎_elim, arith}
use Rattle.counting.specs.Counts.{#-le}
use Rattle.counting.specs.Sets.{Set}
use Rattle.rank.proofs.Layered.Duality.{rank_reached}
use Rattle.rank.proofs.Layered.Minimax.{sum_short}
use Rattle.rank.specs.Layered.Model.{Assignment, Legal, placing, size}
use Rattle.rank.specs.Layered.Rank.{rank, short, sum}
use Rattle.degrees.specs.Bound.{bound, reached}
use Rattle.degrees.proofs.Degree.{degree_bounds, degree_cases}
use Rattle.degrees.specs.Degrees.{degree, weight, AllPlaced}
use Rattle.degrees.specs.Dynamics.{Dynamic, layered, powers}
use Rattle.degrees.specs.Levels.{AfterRounds, Eliminated, Levelled, Room, raised, tight, touched}
use Rattle.degrees.specs.Raising.{bound_falls, raised_le, raised_levelled}
use Rattle.degrees.specs.TightPart.{tight_legal}
use Rattle.degrees.specs.Totals.{total_below, total_ext}

module _ (X : Dynamic) where
  open X use {K, a, b, n, Q, T, column_power, power}
  open K use {F}

  -- no level and no height above c
  pub rounds_start : (c : ℕ) (P : ℕ → ℕ → F) (L z : ℕ → ℕ) → Levelled X P L z → ((x : ℕ) → x < n → z x ≤ c) → ((q : ℕ) → q < a + b → L q ≤ c) → AfterRounds X c 0 P L z
  rounds_start c P L z d hz hl = record {
    levelled = d;
    low_heights = λ x l. omega (arith, hz x l);
    low_levels = λ q l. omega (arith, hl q l);
    fallen = omega (arith, total_below (a + b) c L hl);
  }

  -- a full assignment on the tight entries has the degree
  pub last_weight : (P : ℕ → ℕ → F) (L z : ℕ → ℕ) (d : Levelled X P L z) → a + b ≡ n → (A : Assignment) → Legal (tight X P L z) A → AllPlaced (layered X) A
      → weight (layered X) (powers X) A ≡ degree (layered X) (powers X)
  last_weight P L z d e A l f =
      let le : weight (layered X) (powers X) A ≤ degree (layered X) (powers X) = degree_bounds (layered X) (powers X) A (tight_legal X P L z d A l) f in
      ⊎_elim (λ w. omega (arith, w.3, bound X P L z d w.0 w.1 w.2, reached X P L z d e A l f)) (λ z. omega arith) (degree_cases (layered X) (powers X))

  -- the short set of a tight part whose rank is not n has a sum below n
  pub short_below : (P : ℕ → ℕ → F) (L z : ℕ → ℕ) → rank (tight X P L z) ≢ n → sum (tight X P L z) (short (tight X P L z)) < n
  short_below P L z ne =
      let r : (A : Assignment) × Legal (tight X P L z) A × (size (tight X P L z) A ≡ rank (tight X P L z)) = rank_reached (tight X P L z) in
      omega (arith, sum_short (tight X P L z), r.2, #-le n (placing r.0))

  module _ (c k : ℕ) (P : ℕ → ℕ → F) (L z : ℕ → ℕ) (h : AfterRounds X c k P L z) where
    -- one round more, on a set with a small sum in the tight part
    pub rounds_next : (J : Set) → sum (tight X P L z) J < n → (R : ℕ → ℕ → F) (o : ℕ → ℕ) → Eliminated X L z J P a R o
        → (s : ℕ) → Room X L z J s R → AfterRounds X c (k + s) R (raised s L (touched X L z J R)) (raised s z J)
    rounds_next J g R o e s m = record {
      levelled = raised_levelled X L z J R s m e.levelled;
      low_heights = λ x l. omega (arith, h.low_heights x l, raised_le s (J x));
      low_levels = λ q l. omega (arith, h.low_levels q l, raised_le s (touched X L z J R q));
      fallen = omega (arith, h.fallen, bound_falls X L z J R s P o e g);
    }

    -- the bound falls in each round, so the rise is small
    pub rounds_few : (A : Assignment) → Legal (layered X) A → AllPlaced (layered X) A → k ≤ c * (a + b)
    unfolding weight
    rounds_few A l f = omega (arith, h.fallen, bound X P L z h.levelled A l f)

    -- the same levels and heights, said otherwise
    pub rounds_as : (L' z' : ℕ → ℕ) → ((q : ℕ) → q < a + b → L q ≡ L' q) → ((x : ℕ) → x < n → z x ≡ z' x) → AfterRounds X c k P L' z'
    rounds_as L' z' el ez = record {
      levelled = record {
        kernel = h.levelled.kernel;
        constant_le = λ i x li lx nz. omega (arith, el i (omega arith), ez x lx, h.levelled.constant_le i x li lx nz);
        row_le = λ r x lr lx t. omega (arith, el (a + r) (omega arith), ez x lx, h.levelled.row_le r x lr lx t);
      };
      low_heights = λ x l. omega (arith, ez x l, h.low_heights x l);
      low_levels = λ q l. omega (arith, el q l, h.low_levels q l);
      fallen = omega (arith, total_ext (a + b) L L' el, total_ext n z z' ez, h.fallen);
    }

-- A round: with the levels of the touched rows and the heights on the set raised, no entry stands above its row's level, and the bound has fallen.
-- Assumes nothing.
use Rattle.std.specs.Prelude.{◌*◌, ◌+◌, ◌<◌, ℕ, ◌≤◌, Bool, false, true, refl, ◌≡◌}
use Rattle.std.proofs.lemmas.Bool.{false≢true}
use Rattle.std.proofs.Math.Nat.{mul-le-mul}
use native.Mathlib.Omega.{arith}
use Rattle.counting.specs.Blocks.{#-plus, beside_high, beside_low}
use Rattle.counting.specs.Bools.{and_in}
use Rattle.counting.specs.Counts.{#-ext, #-∁}
use Rattle.counting.specs.Injections.{#-mono}
use Rattle.counting.specs.Sets.{#, Set, indicator, touching, ∁, ◌∩◌}
use Rattle.rank.specs.Layered.Rank.{sum}
use Rattle.rank.specs.Linear.Kernels.{hits}
use Rattle.rank.specs.Totals.{total}
use Rattle.degrees.specs.Dynamics.{Dynamic}
use Rattle.degrees.specs.Elimination.{constant_rows}
use Rattle.degrees.specs.Levels.{Eliminated, Levelled, Room, raised, tight, tight_constants, tight_parameters, touched}
use Rattle.degrees.specs.Totals.{total_raise}

-- a height and its level, raised where asked
raise : (u v l s : ℕ) (j r : Bool) → u + v ≤ l → (j ≡ true → (r ≡ true → ⊥) → u + v + s ≤ l) → u + (v + s * indicator j) ≤ l + s * indicator r
unfolding indicator
raise u v l s true true g f = omega arith
raise u v l s true false g f = omega (arith, f refl false≢true)
raise u v l s false true g f = omega arith
raise u v l s false false g f = omega arith

pub raised_le : (s : ℕ) (t : Bool) → s * indicator t ≤ s
unfolding indicator
raised_le s true = omega arith
raised_le s false = omega arith

module _ (X : Dynamic) (L z : ℕ → ℕ) (J : Set) (P : ℕ → ℕ → X.K.F) where
  open X use {K, a, b, n, T, column_power, power}
  open K use {F, 𝟘}

  abbrev constant_touching : Set
  constant_touching = touching n (hits K (tight_constants X P L z)) J

  abbrev parameter_touching : Set
  parameter_touching = touching n (tight_parameters X L z) J

  pub constant_touched : (h : ℕ) → h < a → touched X L z J P h ≡ constant_touching h
  unfolding touched
  constant_touched h l = beside_low a constant_touching parameter_touching h l

  pub parameter_touched : (r : ℕ) → touched X L z J P (a + r) ≡ parameter_touching r
  unfolding touched
  parameter_touched r = beside_high a constant_touching parameter_touching r

  pub raised_levelled : (s : ℕ) → Room X L z J s P → Levelled X P L z → Levelled X P (raised s L (touched X L z J P)) (raised s z J)
  raised_levelled s m d = record {
    kernel = d.kernel;
    constant_le = λ h x lh lx nz. raise (column_power x) (z x) (L h) s (J x) (touched X L z J P h) (d.constant_le h x lh lx nz)
        (λ j nr. m.constant_room h x lh lx j nz nr);
    row_le = λ r x lr lx t. raise (power r x) (z x) (L (a + r)) s (J x) (touched X L z J P (a + r)) (d.row_le r x lr lx t)
        (λ j nr. m.row_room r x lr lx j t nr);
  }

  touched_count : # (a + b) (touched X L z J P) ≡ # a constant_touching + # b parameter_touching
  touched_count = omega (
    arith,
    #-plus a b (touched X L z J P),
    #-ext a (touched X L z J P) constant_touching constant_touched,
    #-ext b (λ r. touched X L z J P (a + r)) parameter_touching (λ r l. parameter_touched r),
  )

  pub bound_falls : (s : ℕ) (P₀ : ℕ → ℕ → F) (o : ℕ → ℕ) → Eliminated X L z J P₀ a P o → sum (tight X P₀ L z) J < n
      → total (a + b) (raised s L (touched X L z J P)) + total n z + s ≤ total (a + b) L + total n (raised s z J)
  unfolding sum
  bound_falls s P₀ o c g = omega (
    arith,
    more (# (a + b) (touched X L z J P)) (# n J) (omega (
      arith,
      constant_rows X P₀ L z J P o c,
      touched_count,
      #-∁ n J,
      #-mono n (∁ J) (∁ J ∩ (λ x. true)) (λ x l e. and_in e refl),
    )),
    total_raise (a + b) s L (touched X L z J P),
    total_raise n s z J,
  )
    where
      more : (t j : ℕ) → t + 1 ≤ j → s * t + s ≤ s * j
      more t j l = let q : s * (t + 1) ≤ s * j = mul-le-mul {n₂ = s} {m₂ = j} (omega arith) l in omega (arith, q)

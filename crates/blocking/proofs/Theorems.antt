-- Document 02, E2: what is proved of the reason for an unplaced column. Assumes nothing.
use Rattle.std.specs.Prelude.{ℕ, suc, ◌+◌, ◌<◌, ◌≡◌, Bool, true, ◌≢◌, ◌↔◌}
use Rattle.residue.specs.Arithmetic.{Prime}
use Rattle.residue.specs.Residues.{residues}
use Rattle.counting.specs.Sets.{Set, ◌∈◌, ◌⊆◌, #, touching}
use Rattle.counting.specs.Counts.{◌⊖◌}
use Rattle.rank.specs.Linear.Independence.{Indep}
use Rattle.rank.specs.Layered.Model.{Model}
use Rattle.rank.specs.Layered.Rank.{constant_rank, rank, placed, short}
use Rattle.rank.specs.Independent.{independent}
use Rattle.listed_models.specs.ModelModulo.{model_modulo}
use Rattle.blocking.specs.Reason.{Blocking, reason, BlockedWith, untouched}
use Rattle.blocking.specs.ReasonLaws.{second_call, reason_blocking, blocking_unique, reason_lacks_one, reason_self, reason_in_short, reason_short, second_rank, second_placed}
use Rattle.blocking.specs.ShortLaws.{short_blocked}
use Rattle.dependence.specs.Multipliers.{Depends, depends, multiplier}
use Rattle.blocking.proofs.MultiplierLaws.{depends_on_reason, reason_numbers}

-- x is an unplaced column
module _ (M : Model) (x : ℕ) (l : x < M.n) (o : x ∈ M.E) (unplaced : x ∈ placed M → ⊥) where
  open M use {K, a, b, n, Q, T}

  -- The reason is drawn from x and the placed columns, it has no legal assignment, and dropping any one column leaves a set that has one.
  pub reason_blocks : Blocking M x (reason M x)
  reason_blocks = reason_blocking M x l o unplaced

  -- It is the only such set.
  pub reason_unique : (D : Set) → Blocking M x D → (y : ℕ) → D y ≡ reason M x y
  reason_unique = blocking_unique M x l o unplaced

  -- Its constant rank and the number of parameter rows that touch it are together one less than the number of its columns: it lacks one equation.
  pub reason_lacks_one_equation : suc (constant_rank M (reason M x) + # b (touching n T (reason M x))) ≡ # n (reason M x)
  reason_lacks_one_equation = reason_lacks_one M x l o unplaced

  -- It has x itself,
  pub reason_has_the_column : x ∈ reason M x
  reason_has_the_column = reason_self M x l o unplaced

  -- and lies in the short set.
  pub reason_inside_short : reason M x ⊆ short M
  reason_inside_short = reason_in_short M x l o unplaced

  -- For the code: it is the short set of a second call, which is offered x and the placed columns alone,
  pub reason_is_a_short_set : (y : ℕ) → reason M x y ≡ short (second_call M x) y
  reason_is_a_short_set = reason_short M x l o unplaced

  -- and which has the same rank and the same placed set: x is the one column that it leaves out.
  pub second_call_answers : (rank (second_call M x) ≡ rank M) × ((y : ℕ) → y < n → placed (second_call M x) y ≡ placed M y)
  second_call_answers = (second_rank M x l o unplaced, second_placed M x l o unplaced)

  -- Where no parameter row touches the reason, its other columns are independent, x depends on them, and no multiplier is 0.
  pub reason_depends : untouched M (reason M x) ≡ true → Indep K a n Q (reason M x ⊖ x)
      × ((c : ℕ → K.F) × Depends K a n Q (reason M x ⊖ x) x c × ((y : ℕ) → y ∈ reason M x → y ≢ x → c y ≢ K.𝟘))
  reason_depends = depends_on_reason M x l o unplaced

-- Together, the reasons for all unplaced columns are the short set.
pub short_is_all_reasons : (M : Model) (y : ℕ) → (y ∈ short M) ↔ BlockedWith M y
short_is_all_reasons M y = (short_blocked M y, λ w. reason_in_short M w.column w.below w.is_offered w.unplaced y w.in_reason)

-- Modulo a prime the same of the test and the numbers of E1.
module _ (q : ℕ) (P : Prime q) (n a b : ℕ) (Q : ℕ → ℕ → (residues q P).F) (T : ℕ → ℕ → Bool) (E : Set) where
  pub reason_has_multipliers : (x : ℕ) → x < n → x ∈ E → (x ∈ placed (model_modulo q P n a b Q T E) → ⊥)
      → untouched (model_modulo q P n a b Q T E) (reason (model_modulo q P n a b Q T E) x) ≡ true
      → let H : Set = reason (model_modulo q P n a b Q T E) x ⊖ x in
      (independent q P a n Q H ≡ true) × (depends q P a n Q H x ≡ true) × ((y : ℕ) → y ∈ H → multiplier q P a n Q H x y ≢ 0)
  reason_has_multipliers = reason_numbers q P n a b Q T E

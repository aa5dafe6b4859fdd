-- Document 02, E2: the reason for an unplaced column. Definitions only; assumes nothing.
use Rattle.std.specs.Prelude.{ℕ, ◌<◌, ◌≡◌, Bool, true, false, not, cond, ◌&&◌}
use Rattle.std.proofs.Math.Bool.{decide}
use Rattle.std.proofs.Math.Decide.{dec_lt}
use Rattle.residue.specs.Arithmetic.{Prime}
use Rattle.residue.specs.Residues.{residues}
use Rattle.counting.specs.Sets.{Set, ◌∈◌, all, set, touching}
use Rattle.counting.specs.Counts.{◌⊖◌}
use Rattle.rank.specs.Layered.Model.{Model}
use Rattle.rank.specs.Layered.Rank.{placeable, placed}
use Rattle.listed_models.specs.ModelModulo.{model_modulo}
use Rattle.dependence.specs.Multipliers.{given}

module _ (M : Model) where
  open M use {b, n, T, E}

  -- the columns that the reason for column x is drawn from: x and the placed ones
  abbrev pub drawn_from : ℕ → Set
  drawn_from x = set (placed M) x true

  -- D is drawn from x and the placed columns; it has no legal assignment, while dropping any one column leaves a set that has one
  pub record Blocking (x : ℕ) (D : Set) : Type 0 where
    pub drawn : (y : ℕ) → y ∈ D → (y < n) × (y ∈ drawn_from x)
    pub has_none : placeable M D ≡ false
    pub dropping_one : (y : ℕ) → y ∈ D → placeable M (D ⊖ y) ≡ true

  -- the reason for column x: of x and the placed columns, those without which all the others have a legal assignment; `reason_blocks` and
  -- `reason_unique` say that it is the one set that is `Blocking`
  unfoldable pub reason : ℕ → Set
  reason x y = decide (dec_lt y n) && drawn_from x y && placeable M (drawn_from x ⊖ y)

  -- some unplaced column has y in its reason
  pub record BlockedWith (y : ℕ) : Type 0 where
    pub column : ℕ
    pub below : column < n
    pub is_offered : column ∈ E
    pub unplaced : column ∈ placed M → ⊥
    pub in_reason : y ∈ reason column

  -- no parameter row touches D
  unfoldable pub untouched : Set → Bool
  untouched D = all b (λ r. not (touching n T D r))

-- a model modulo the prime q, with the columns of E offered
module _ (q : ℕ) (P : Prime q) (n a b : ℕ) (Q : ℕ → ℕ → (residues q P).F) (T : ℕ → ℕ → Bool) (E : Set) where
  abbrev M : Model
  M = model_modulo q P n a b Q T E

  -- the multiplier of column j in the reason for column x: that of E1, of x by the other columns of the reason, where no parameter row touches it; else none
  -- is given, which is 0
  unfoldable pub reason_multiplier : (x j : ℕ) → ℕ
  reason_multiplier x j = cond (untouched M (reason M x)) (given q P a n Q (reason M x ⊖ x) x j) 0

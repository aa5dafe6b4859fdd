-- Where no parameter row touches the reason for an unplaced column, that column depends on all the others in it.
-- Assumes nothing.
use Rattle.std.specs.Prelude.{ℕ, ◌<◌, ◌≡◌, refl, Bool, true, ◌≢◌}
use Rattle.std.proofs.Common.{sym, ◌∙◌, ap}
use Rattle.std.proofs.Math.Bool.{not, true≢false}
use Rattle.std.proofs.Math.Logic.{inl, inr}
use Rattle.std.proofs.Math.Decide.{ℕ_discrete}
use Rattle.residue.specs.Arithmetic.{Prime}
use Rattle.residue.specs.Residues.{residues, res, res_num_of, res_zero}
use Rattle.counting.specs.Bools.{not_both}
use Rattle.counting.specs.Sets.{Set, ◌∈◌, ◌⊆◌, set, touching}
use Rattle.counting.specs.Counts.{◌⊖◌, ⊖-in, ⊖-other, set_same, set_other, all_iff, touching_iff}
use Rattle.counting.specs.ChoiceLaws.{cond_true, cond_false}
use Rattle.rank.specs.Linear.Independence.{Indep}
use Rattle.rank.specs.Linear.Kernels.{indep_sub}
use Rattle.rank.specs.Layered.Model.{Model, Assignment, placing, constants, Legal}
use Rattle.rank.specs.Layered.Rank.{placed}
use Rattle.rank.proofs.Layered.Meaning.{placeable_iff}
use Rattle.rank.proofs.Layered.Minimax.{short_of_E}
use Rattle.rank.specs.Independent.{independent}
use Rattle.rank.proofs.IndependentLaws.{independent_iff}
use Rattle.listed_models.specs.ModelModulo.{model_modulo}
use Rattle.dependence.specs.ConstantSide.{all_constant, all_constant_places, all_constant_legal, placed_constant}
use Rattle.blocking.specs.Reason.{reason, untouched, reason_multiplier}
use Rattle.blocking.specs.ReasonLaws.{reason_blocking, reason_self, reason_in_short}
use Rattle.dependence.specs.Multipliers.{Depends, depends, multiplier, given}
use Rattle.dependence.specs.MultiplierLaws.{lacks_one}
use Rattle.dependence.specs.TableauLaws.{depends_or_independent}
use Rattle.dependence.proofs.NumberLaws.{depends_iff, multipliers_are}

-- x is an unplaced column, and no parameter row touches its reason
module _ (M : Model) (x : ℕ) (l : x < M.n) (o : x ∈ M.E) (unplaced : x ∈ placed M → ⊥) (free : untouched M (reason M x) ≡ true) where
  open M use {K, a, b, n, Q, T, E}
  open K use {F, 𝟘}

  R : Set
  R = reason M x

  R_below : (y : ℕ) → y ∈ R → y < n
  unfolding R
  R_below y e = ((reason_blocking M x l o unplaced).drawn y e).0

  no_parameter : (y r : ℕ) → r < b → y ∈ R → T r y ≡ true → ⊥
  unfolding R untouched
  no_parameter y r lr e t =
      not_both (touching n T R r) ((all_iff b (λ r. not (touching n T R r))).0 free r lr) ((touching_iff n T R r).1 (y, R_below y e, (e, t)))

  -- without any one column it has a legal assignment, all on the constant side
  ⊖-indep : (y : ℕ) → y ∈ R → Indep K a n Q (R ⊖ y)
  unfolding R
  ⊖-indep y e =
      let w : (A : Assignment) × Legal M A × ((z : ℕ) → z < n → placing A z ≡ (R ⊖ y) z)
      = (placeable_iff M (R ⊖ y)).0 ((reason_blocking M x l o unplaced).dropping_one y e) in
      indep_sub {T = constants w.0} (λ z d. placed_constant M w.0 w.1
      (λ u r lr p. no_parameter u r lr (⊖-in R y u (sym (w.2 u (w.1.offered u p).0) ∙ p)).0)
      z (w.2 z (R_below z (⊖-in R y z d).0) ∙ d)) w.1.independent

  -- but it has none itself
  dependent : Indep K a n Q R → ⊥
  unfolding R
  dependent i = true≢false (sym ((placeable_iff M R).1 (
    all_constant R,
    all_constant_legal M R (λ y e. (R_below y e, (short_of_E M y (reason_in_short M x l o unplaced y e)).1)) i,
    λ y ly. all_constant_places R y,
  )) ∙ (reason_blocking M x l o unplaced).has_none)

  -- the others are independent, x depends on them, and no multiplier is 0
  pub depends_on_reason : Indep K a n Q (reason M x ⊖ x)
      × ((c : ℕ → F) × Depends K a n Q (reason M x ⊖ x) x c × ((y : ℕ) → y ∈ reason M x → y ≢ x → c y ≢ 𝟘))
  unfolding R
  depends_on_reason = (
    ⊖-indep x has_x,
    elim (depends_or_independent M (R ⊖ x) (λ j e. R_below j (⊖-in R x j e).0) (⊖-indep x has_x) x l) [
      | inr k ↦ absurd (dependent (indep_sub {T = set (R ⊖ x) x true} back k.1))
      | inl m ↦ (
        m.0,
        m.1,
        λ y e ne z. lacks_one Q (R ⊖ x) (R ⊖ y) x m.0 l m.1 (⊖-indep y e) (⊖-other R y x (λ d. ne (sym d)) ∙ has_x)
            (λ j nj. elim (ℕ_discrete j y) [ yes d ↦ rw d z | no nd ↦ m.1.only_held j (λ d. nj (⊖-other R y j nd ∙ (⊖-in R x j d).0)) ])
            (m.1.only_held x (λ d. (⊖-in R x x d).1 refl)),
      )
    ],
  )
    where
      has_x : x ∈ R
      has_x = reason_self M x l o unplaced

      back : R ⊆ set (R ⊖ x) x true
      back j e = elim (ℕ_discrete j x) [ yes d ↦ rw d (set_same (R ⊖ x) x true) | no nd ↦ set_other (R ⊖ x) x true j nd ∙ ⊖-other R x j nd ∙ e ]

-- modulo a prime the same of the tests and the numbers
module _ (q : ℕ) (P : Prime q) (n a b : ℕ) (Q : ℕ → ℕ → (residues q P).F) (T : ℕ → ℕ → Bool) (E : Set) where
  -- the multiplier in the reason, where no parameter row touches it and where one does
  pub untouched_multiplier : (x : ℕ) → untouched (model_modulo q P n a b Q T E) (reason (model_modulo q P n a b Q T E) x) ≡ true
      → (j : ℕ) → reason_multiplier q P n a b Q T E x j ≡ given q P a n Q (reason (model_modulo q P n a b Q T E) x ⊖ x) x j
  unfolding reason_multiplier
  untouched_multiplier x e j = cond_true _ _ _ e

  pub touched_multiplier : (x : ℕ) → untouched (model_modulo q P n a b Q T E) (reason (model_modulo q P n a b Q T E) x) ≢ true → (j : ℕ) → reason_multiplier q P n a b Q T E x j ≡ 0
  unfolding reason_multiplier
  touched_multiplier x e j = cond_false _ _ _ e

  pub reason_numbers : (x : ℕ) → x < n → x ∈ E → (x ∈ placed (model_modulo q P n a b Q T E) → ⊥)
      → untouched (model_modulo q P n a b Q T E) (reason (model_modulo q P n a b Q T E) x) ≡ true
      → let H : Set = reason (model_modulo q P n a b Q T E) x ⊖ x in
      (independent q P a n Q H ≡ true) × (depends q P a n Q H x ≡ true) × ((y : ℕ) → y ∈ H → multiplier q P a n Q H x y ≢ 0)
  reason_numbers x l o unplaced free =
      let M : Model = model_modulo q P n a b Q T E in
      let w : Indep (residues q P) a n Q (reason M x ⊖ x) × ((c : ℕ → (residues q P).F) × Depends (residues q P) a n Q (reason M x ⊖ x) x c
      × ((y : ℕ) → y ∈ reason M x → y ≢ x → c y ≢ (residues q P).𝟘)) = depends_on_reason M x l o unplaced free in (
        (independent_iff q P a n Q (reason M x ⊖ x)).1 w.0,
        (depends_iff q P a n Q (reason M x ⊖ x) x).1 (w.1.0, w.1.1),
        λ y e z.
            let k : (y ∈ reason M x) × (y ≢ x) = ⊖-in (reason M x) x y e in
            w.1.2 y k.0 k.1 (sym (res_num_of q P (w.1.0 y))
            ∙ ap (res q P)
            (sym (multipliers_are q P a n Q (reason M x ⊖ x) x w.0 w.1.0 w.1.1 y ((reason_blocking M x l o unplaced).drawn y k.0).0) ∙ z)
            ∙ res_zero q P),
      )

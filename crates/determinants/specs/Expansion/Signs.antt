-- Numbers and expansions that differ in their sign at most. Assumes nothing.
use Rattle.std.specs.Prelude.{ℕ, ◌≡◌, refl, ◌≢◌, ◌⊎◌}
use Rattle.std.proofs.Common.{sym, ap, ap₂, ◌∙◌, inl, inr}
use Rattle.std.proofs.Math.Path.{subst, fun_ext}
use mathlib.Core.List.{List, [], ◌∷◌}
use Rattle.std.proofs.Math.Logic.{by_cases}
use Rattle.std.proofs.Math.Decide.{ℕ_discrete}
use Rattle.residue.specs.Fields.{Field, neg_mul, neg_neg, neg_zero, one_mul, unmul}
use Rattle.counting.specs.Sets.{◌∈◌}
use Rattle.determinants.specs.Statements.{members, without, UpToSign}
use Rattle.determinants.specs.Lists.Members.{member_other, not_member}
use Rattle.determinants.specs.Lists.Without.{without_head, without_tail}
use Rattle.determinants.specs.Expansion.Rows.{expansion, along, along_scale, along_swap}

module _ (K : Field) where
  open K use {F, 𝟘, 𝟙, ◌·◌, neg}

  -- 1 or −1
  abbrev IsSign : F → Type 0
  IsSign s = (s ≡ 𝟙) ⊎ (s ≡ neg 𝟙)

  -- x is y times such a number
  abbrev pub Signed : F → F → Type 0
  Signed x y = (s : F) × IsSign s × (x ≡ s · y)

  pub signed : (x y : F) → Signed x y → UpToSign K x y
  signed x y (s, inl e, p) = inl (p ∙ ap (λ z. z · y) e ∙ one_mul K y)
  signed x y (s, inr e, p) = inr (p ∙ ap (λ z. z · y) e ∙ neg_mul K 𝟙 y ∙ ap neg (one_mul K y))

  pub sign_times : (s t : F) → IsSign s → IsSign t → IsSign (s · t)
  sign_times s t (inl e) h = subst IsSign (sym (ap (λ z. z · t) e ∙ one_mul K t)) h
  sign_times s t (inr e) (inl d) = inr (ap₂ ◌·◌ e d ∙ K.mul_one _)
  sign_times s t (inr e) (inr d) = inl (ap₂ ◌·◌ e d ∙ neg_mul K 𝟙 (neg 𝟙) ∙ ap neg (one_mul K _) ∙ neg_neg K 𝟙)

  pub sign_neg : (s : F) → IsSign s → IsSign (neg s)
  sign_neg s (inl e) = inr (ap neg e)
  sign_neg s (inr e) = inl (ap neg e ∙ neg_neg K 𝟙)

  sign_nonzero : (s : F) → IsSign s → s ≢ 𝟘
  sign_nonzero s (inl e) z = K.one_ne (sym e ∙ z)
  sign_nonzero s (inr e) z = K.one_ne (sym (neg_neg K 𝟙) ∙ ap neg (sym e ∙ z) ∙ neg_zero K)

  -- f is g, or f is −g
  pub record Alike (f g : List ℕ → F) : Type 0 where
    pub factor : F
    pub is_sign : IsSign factor
    pub same : (R : List ℕ) → f R ≡ factor · g R

  pub alike_refl : (f : List ℕ → F) → Alike f f
  alike_refl f = record { factor = 𝟙; is_sign = inl refl; same = λ R. sym (one_mul K _) }

  pub alike_trans : (f g h : List ℕ → F) → Alike f g → Alike g h → Alike f h
  alike_trans f g h e d = record {
    factor = e.factor · d.factor;
    is_sign = sign_times e.factor d.factor e.is_sign d.is_sign;
    same = λ R. e.same R ∙ ap (λ z. e.factor · z) (d.same R) ∙ sym (K.mul_assoc _ _ _);
  }

  -- one is zero where the other is
  pub alike_nonzero : (f g : List ℕ → F) → Alike f g → (R : List ℕ) → g R ≢ 𝟘 → f R ≢ 𝟘
  alike_nonzero f g e R nz z = nz (unmul K e.factor (g R) (sign_nonzero e.factor e.is_sign) (sym (e.same R) ∙ z))

module _ (K : Field) (Q : ℕ → ℕ → K.F) where
  open K use {F, 𝟙, neg}

  pub alike_along : (a : ℕ) (f g : List ℕ → F) → Alike K f g → Alike K (along K Q a f) (along K Q a g)
  alike_along a f g e = record {
    factor = e.factor;
    is_sign = e.is_sign;
    same = λ R. ap (λ h. along K Q a h R) (fun_ext e.same) ∙ along_scale K Q a e.factor g R;
  }

  pub alike_swap : (i a : ℕ) (f : List ℕ → F) → Alike K (along K Q a (along K Q i f)) (along K Q i (along K Q a f))
  alike_swap i a f = record {
    factor = neg 𝟙;
    is_sign = inr refl;
    same = λ R. along_swap K Q a i f R ∙ ap neg (sym (one_mul K _)) ∙ sym (neg_mul K _ _);
  }

  -- a row is moved to the front
  pub front_row : (r : ℕ) (I : List ℕ) → r ∈ members I → Alike K (expansion K Q I) (expansion K Q (r ∷ without r I))
  unfolding expansion
  front_row r [] m = absurd (not_member r m)
  front_row r (a ∷ I) m = by_cases (ℕ_discrete a r)
      (λ e. subst (λ L. Alike K (along K Q a (expansion K Q I)) (along K Q r (expansion K Q L))) (sym (ap (λ y. without r (y ∷ I)) e ∙ without_head r I))
      (subst (λ y. Alike K (along K Q a (expansion K Q I)) (along K Q y (expansion K Q I))) e (alike_refl K _)))
      (λ ne. subst (λ L. Alike K (along K Q a (expansion K Q I)) (along K Q r (expansion K Q L))) (sym (without_tail r a I ne))
      (alike_trans K _ _ _ (alike_along a _ _ (front_row r I (member_other a I r (λ e. ne (sym e)) m))) (alike_swap r a (expansion K Q (without r I)))))

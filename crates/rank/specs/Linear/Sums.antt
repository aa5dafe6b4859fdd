-- The laws of sums and of the product of a row and coefficients. Assumes nothing.
use Prim.Native.Nat.{ℕ, zero, suc, ◌<◌, ◌+◌ as ◌ℕ+◌}
use Rattle.std.specs.Prelude.{◌≢◌, ◌≡◌}
use Rattle.std.proofs.Math.Logic.{by_cases}
use Rattle.std.proofs.Math.Path.{refl, sym, ap, ap₂, fun_ext}
use Rattle.std.proofs.Common.{◌∙◌}
use Rattle.std.proofs.Math.Decide.{ℕ_discrete}
use native.Mathlib.Omega.{arith}
use Rattle.residue.specs.Fields.{Field, ring, zero_add, mul_zero, add_mul}
use Rattle.counting.specs.Sets.{set}
use Rattle.counting.specs.Counts.{set_other, set_same}
use Rattle.rank.specs.Linear.Independence.{dot, Σ}

module _ (K : Field) where
  open K use {F, 𝟘, 𝟙, ◌+◌, ◌·◌, neg, inv}

  pub Σ-cong : (n : ℕ) (f g : ℕ → F) → ((j : ℕ) → j < n → f j ≡ g j) → Σ K n f ≡ Σ K n g
  unfolding Σ
  Σ-cong zero f g h = refl
  Σ-cong (suc n) f g h = rw (Σ-cong n f g (λ j l. h j (omega arith)), h n (omega arith), Σ)

  pub Σ-zero : (n : ℕ) (f : ℕ → F) → ((j : ℕ) → j < n → f j ≡ 𝟘) → Σ K n f ≡ 𝟘
  unfolding Σ
  Σ-zero zero f h = refl
  Σ-zero (suc n) f h = simp (Σ-zero n f (λ j l. h j (omega arith)), h n (omega arith), ring)

  pub Σ-add : (n : ℕ) (f g : ℕ → F) → Σ K n (λ j. f j + g j) ≡ Σ K n f + Σ K n g
  unfolding Σ
  Σ-add zero f g = sym (zero_add K 𝟘)
  Σ-add (suc n) f g = simp (Σ-add n f g, ring)

  pub Σ-scale : (n : ℕ) (t : F) (f : ℕ → F) → Σ K n (λ j. t · f j) ≡ t · Σ K n f
  unfolding Σ
  Σ-scale zero t f = sym (mul_zero K t)
  Σ-scale (suc n) t f = simp (Σ-scale n t f, ring)

  -- at most one term is not zero
  pub Σ-one : (n : ℕ) (f : ℕ → F) (j : ℕ) → j < n → ((k : ℕ) → k < n → k ≢ j → f k ≡ 𝟘) → Σ K n f ≡ f j
  unfolding Σ
  Σ-one zero f j l h = absurd (omega arith)
  Σ-one (suc n) f j l h = by_cases (ℕ_discrete j n)
      (λ e. simp (e, Σ-zero n f (λ k m. h k (omega arith) (omega arith)), ring))
      (λ ne. simp (Σ-one n f j (omega arith) (λ k m. h k (omega arith)), h n (omega arith) (omega arith), ring))

  -- the row a times the coefficients c
  pub dot_cong : (n : ℕ) (a c d : ℕ → F) → ((j : ℕ) → j < n → c j ≡ d j) → dot K n a c ≡ dot K n a d
  unfolding dot
  dot_cong n a c d h = Σ-cong n _ _ (λ j l. ap (λ x. a j · x) (h j l))

  pub dot_zero : (n : ℕ) (a c : ℕ → F) → ((j : ℕ) → j < n → a j · c j ≡ 𝟘) → dot K n a c ≡ 𝟘
  unfolding dot
  dot_zero n a c h = Σ-zero n _ h

  pub dot_one : (n : ℕ) (a c : ℕ → F) (j : ℕ) → j < n → ((k : ℕ) → k < n → k ≢ j → a k · c k ≡ 𝟘) → dot K n a c ≡ a j · c j
  unfolding dot
  dot_one n a c j l h = Σ-one n _ j l h

  pub dot_scale : (n : ℕ) (t : F) (a c : ℕ → F) → dot K n (λ j. t · a j) c ≡ t · dot K n a c
  unfolding dot
  dot_scale n t a c = simp K.mul_assoc (Σ-scale n t _)

  pub dot_add : (n : ℕ) (a b c : ℕ → F) → dot K n (λ j. a j + b j) c ≡ dot K n a c + dot K n b c
  unfolding dot
  dot_add n a b c = simp (add_mul K) (Σ-add n _ _)

  -- a row plus a multiple of another
  pub dot_plus : (n : ℕ) (a : ℕ → F) (t : F) (b c : ℕ → F) → dot K n (λ j. a j + t · b j) c ≡ dot K n a c + t · dot K n b c
  dot_plus n a t b c = dot_add n a (λ j. t · b j) c ∙ ap (λ x. dot K n a c + x) (dot_scale n t b c)

  -- one coefficient, so far zero, is set to v
  pub dot_set : (n : ℕ) (a c : ℕ → F) (j : ℕ) (v : F) → j < n → c j ≡ 𝟘 → dot K n a (set c j v) ≡ dot K n a c + a j · v
  unfolding dot
  dot_set n a c j v l e =
      Σ-cong n _ _ (λ k m. by_cases (ℕ_discrete k j)
      (λ d. simp (d, set_same, e, ring)) (λ nd. simp (set_other, ring)))
      ∙ Σ-add n (λ k. a k · c k) (set (λ k. 𝟘) j (a j · v))
      ∙ ap (λ x. dot K n a c + x) (Σ-one n _ j l (λ k m nd. set_other _ j _ k nd) ∙ set_same _ j _)

  -- linear in the coefficients
  pub dot_mix : (n : ℕ) (a : ℕ → F) (s t : F) (c d : ℕ → F) → dot K n a (λ k. s · c k + t · d k) ≡ s · dot K n a c + t · dot K n a d
  unfolding dot
  dot_mix n a s t c d = ap (Σ K n) (fun_ext (λ k. turn (a k) s (c k) t (d k))) ∙ Σ-add n (λ k. s · (a k · c k)) (λ k. t · (a k · d k))
      ∙ ap₂ ◌+◌ (Σ-scale n s (λ k. a k · c k)) (Σ-scale n t (λ k. a k · d k))
    where
      turn : (x s c t d : F) → x · (s · c + t · d) ≡ s · (x · c) + t · (x · d)
      turn x s c t d = simp ring

  -- one coefficient alone
  pub dot_unit : (n : ℕ) (a : ℕ → F) (j : ℕ) (v : F) → j < n → dot K n a (set (λ _. 𝟘) j v) ≡ a j · v
  dot_unit n a j v l = dot_one n a _ j l (λ k m nd. ap (λ z. a k · z) (set_other (λ _. 𝟘) j v k nd) ∙ mul_zero K (a k))
      ∙ ap (λ z. a j · z) (set_same (λ _. 𝟘) j v)

  -- the first m columns and the next n
  Σ-plus : (m n : ℕ) (f : ℕ → F) → Σ K (m ℕ+ n) f ≡ Σ K m f + Σ K n (λ x. f (m ℕ+ x))
  unfolding Σ
  Σ-plus m zero f = let e : m ℕ+ 0 ≡ m = omega arith in rw e (sym (K.add_zero (Σ K m f)))
  Σ-plus m (suc n) f = let e : m ℕ+ suc n ≡ suc (m ℕ+ n) = omega arith in rw e (ap (λ x. x + f (m ℕ+ n)) (Σ-plus m n f) ∙ K.add_assoc (Σ K m f) (Σ K n (λ x. f (m ℕ+ x))) (f (m ℕ+ n)))

  pub dot_beside : (m n : ℕ) (a c : ℕ → F) → dot K (m ℕ+ n) a c ≡ dot K m a c + dot K n (λ x. a (m ℕ+ x)) (λ x. c (m ℕ+ x))
  unfolding dot
  dot_beside m n a c = Σ-plus m n (λ j. a j · c j)

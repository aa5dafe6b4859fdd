-- Sums over lists. Assumes nothing.
use Rattle.std.specs.Prelude.{◌≡◌}
use Rattle.std.proofs.Math.Path.{refl, sym, ap, ap₂}
use Rattle.std.proofs.Common.{◌∙◌}
use mathlib.Core.List.{List, [], ◌∷◌, ◌++◌, map, flat_map}
use Rattle.residue.specs.Fields.{Field, add_zero, mul_zero, zero_add}
use Rattle.determinants.specs.Determinant.{Each, done, both}

module _ (K : Field) where
  open K use {F, 𝟘, ◌+◌, ◌·◌}

  -- f added over a list
  unfoldable pub total : {A : Type 0} → (A → F) → List A → F
  total f [] = 𝟘
  total f (x ∷ L) = f x + total f L

  module _ {A : Type 0} where
    pub total_append : (f : A → F) (L M : List A) → total f (L ++ M) ≡ total f L + total f M
    unfolding total
    total_append f [] M = sym (zero_add K _)
    total_append f (x ∷ L) M = ap (λ z. f x + z) (total_append f L M) ∙ sym (K.add_assoc _ _ _)

    pub total_map : {B : Type 0} (f : A → F) (g : B → A) (L : List B) → total f (map g L) ≡ total (λ x. f (g x)) L
    unfolding total
    total_map f g [] = refl
    total_map f g (x ∷ L) = ap (λ z. f (g x) + z) (total_map f g L)

    pub total_flat : {B : Type 0} (f : A → F) (g : B → List A) (L : List B) → total f (flat_map g L) ≡ total (λ x. total f (g x)) L
    unfolding total flat_map
    total_flat f g [] = refl
    total_flat f g (x ∷ L) = total_append f (g x) (flat_map g L) ∙ ap (λ z. total f (g x) + z) (total_flat f g L)

    pub total_each : (f g : A → F) (L : List A) → Each (λ x. f x ≡ g x) L → total f L ≡ total g L
    unfolding total
    total_each f g [] done = refl
    total_each f g (x ∷ L) (both p h) = ap₂ ◌+◌ p (total_each f g L h)

    pub total_zero : (f : A → F) → ((x : A) → f x ≡ 𝟘) → (L : List A) → total f L ≡ 𝟘
    unfolding total
    total_zero f h [] = refl
    total_zero f h (x ∷ L) = ap₂ ◌+◌ (h x) (total_zero f h L) ∙ add_zero K 𝟘

    pub total_scale : (t : F) (f : A → F) (L : List A) → total (λ x. t · f x) L ≡ t · total f L
    unfolding total
    total_scale t f [] = sym (mul_zero K t)
    total_scale t f (x ∷ L) = ap (λ z. t · f x + z) (total_scale t f L) ∙ sym (K.mul_add _ _ _)

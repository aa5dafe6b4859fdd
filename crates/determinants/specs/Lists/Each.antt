-- The laws of a statement about each member of a list. Assumes nothing.
use mathlib.Core.List.{List, [], ◌∷◌, ◌++◌, map, flat_map}
use Rattle.determinants.specs.Determinant.{Each, done, both}

module _ {A : Type 0} where
  pub each_head : {P : A → Type 0} {x : A} {L : List A} → Each P (x ∷ L) → P x
  each_head (both p h) = p

  pub each_append : {P : A → Type 0} {L M : List A} → Each P L → Each P M → Each P (L ++ M)
  each_append done k = k
  each_append (both p h) k = both p (each_append h k)

  pub each_map : {P R : A → Type 0} (g : A → A) → ((x : A) → R x → P (g x)) → (L : List A) → Each R L → Each P (map g L)
  each_map g f [] done = done
  each_map g f (x ∷ L) (both p h) = both (f x p) (each_map g f L h)

  pub each_imp : {P R : A → Type 0} → ((x : A) → R x → P x) → (L : List A) → Each R L → Each P L
  each_imp f [] done = done
  each_imp f (x ∷ L) (both p h) = both (f x p) (each_imp f L h)

  pub each_both : {P R : A → Type 0} (L : List A) → Each P L → Each R L → Each (λ x. P x × R x) L
  each_both [] done done = done
  each_both (x ∷ L) (both p h) (both q k) = both {x = x} (p, q) (each_both L h k)

pub each_flat : {A B : Type 0} {P : B → Type 0} {R : A → Type 0} (g : A → List B) → ((x : A) → R x → Each P (g x))
    → (L : List A) → Each R L → Each P (flat_map g L)
unfolding flat_map
each_flat g f [] done = done
each_flat g f (x ∷ L) (both p h) = each_append (f x p) (each_flat g f L h)

-- Expansion along a row, and the determinant that it gives, row by row. Assumes nothing.
use Rattle.std.specs.Prelude.{ℕ, ◌≡◌}
use Rattle.std.proofs.Math.Path.{refl, ap, ap₂}
use Rattle.std.proofs.Common.{◌∙◌}
use mathlib.Core.List.{List, [], ◌∷◌}
use Rattle.residue.specs.Fields.{Field, neg_neg, ring}

module _ (K : Field) (Q : ℕ → ℕ → K.F) where
  open K use {F, 𝟘, 𝟙, ◌+◌, ◌·◌, neg}

  -- take out each column of J in turn: its entry in row i times f of the columns that stay, with signs + − + − ..
  unfoldable pub along : ℕ → (List ℕ → F) → List ℕ → F
  along i f [] = 𝟘
  along i f (j ∷ S) = Q i j · f S + neg (along i (λ R. f (j ∷ R)) S)

  unfoldable pub no_rows : List ℕ → F
  no_rows [] = 𝟙
  no_rows (j ∷ S) = 𝟘

  unfoldable pub expansion : List ℕ → List ℕ → F
  expansion [] = no_rows
  expansion (i ∷ I) = along i (expansion I)

  pub along_add : (i : ℕ) (f g : List ℕ → F) (J : List ℕ) → along i (λ R. f R + g R) J ≡ along i f J + along i g J
  unfolding along
  along_add i f g [] = simp ring
  along_add i f g (j ∷ S) = ap (λ z. Q i j · (f S + g S) + neg z) (along_add i (λ R. f (j ∷ R)) (λ R. g (j ∷ R)) S) ∙ simp ring

  pub along_scale : (i : ℕ) (t : F) (f : List ℕ → F) (J : List ℕ) → along i (λ R. t · f R) J ≡ t · along i f J
  unfolding along
  along_scale i t f [] = simp ring
  along_scale i t f (j ∷ S) = ap (λ z. Q i j · (t · f S) + neg z) (along_scale i t (λ R. f (j ∷ R)) S) ∙ simp ring

  along_neg : (i : ℕ) (f : List ℕ → F) (J : List ℕ) → along i (λ R. neg (f R)) J ≡ neg (along i f J)
  unfolding along
  along_neg i f [] = simp ring
  along_neg i f (j ∷ S) = ap (λ z. Q i j · neg (f S) + neg z) (along_neg i (λ R. f (j ∷ R)) S) ∙ simp ring

  pub along_zero : (i : ℕ) (f : List ℕ → F) → ((R : List ℕ) → f R ≡ 𝟘) → (J : List ℕ) → along i f J ≡ 𝟘
  unfolding along
  along_zero i f z [] = refl
  along_zero i f z (j ∷ S) = ap₂ (λ u v. Q i j · u + neg v) (z S) (along_zero i (λ R. f (j ∷ R)) (λ R. z (j ∷ R)) S) ∙ simp ring

  along_two : (x y : ℕ) (f : List ℕ → F) (j : ℕ) (S : List ℕ)
      → along x (along y f) (j ∷ S) ≡ Q x j · along y f S + (neg (Q y j · along x f S) + along x (along y (λ R. f (j ∷ R))) S)
  unfolding along
  along_two x y f j S = ap (λ z. Q x j · along y f S + neg z)
      (along_add x (λ R. Q y j · f R) (λ R. neg (along y (λ P. f (j ∷ P)) R)) S
      ∙ ap (λ z. z + along x (λ R. neg (along y (λ P. f (j ∷ P)) R)) S) (along_scale x (Q y j) f S)
      ∙ ap (λ z. Q y j · along x f S + z) (along_neg x (along y (λ P. f (j ∷ P))) S)) ∙ simp (neg_neg K, ring)

  -- two rows change places
  pub along_swap : (x y : ℕ) (f : List ℕ → F) (J : List ℕ) → along x (along y f) J ≡ neg (along y (along x f) J)
  along_swap x y f [] = unfold along in simp ring
  along_swap x y f (j ∷ S) = rw (along_two x y f j S, along_two y x f j S, along_swap x y (λ R. f (j ∷ R)) S) (simp (neg_neg K, ring))

  -- one row twice
  pub along_twice : (x : ℕ) (f : List ℕ → F) (J : List ℕ) → along x (along x f) J ≡ 𝟘
  along_twice x f [] = unfold along in refl
  along_twice x f (j ∷ S) = rw (along_two x x f j S, along_twice x (λ R. f (j ∷ R)) S) (simp ring)

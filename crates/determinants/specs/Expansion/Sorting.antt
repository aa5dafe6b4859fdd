-- Sorting the rows changes the sign of an expansion at most, so that it keeps whether it is zero. Assumes nothing.
use Rattle.std.specs.Prelude.{ℕ, ◌<◌, ◌≢◌}
use mathlib.Core.List.{List, [], ◌∷◌}
use Rattle.std.proofs.Math.Decide.{dec_lt}
use Rattle.residue.specs.Fields.{Field}
use Rattle.counting.specs.Sets.{choose}
use Rattle.determinants.specs.Lists.Order.{put, sort}
use Rattle.determinants.specs.Expansion.Rows.{expansion, along}
use Rattle.determinants.specs.Expansion.Signs.{Alike, alike_refl, alike_trans, alike_nonzero, alike_along, alike_swap}

module _ (K : Field) (Q : ℕ → ℕ → K.F) where
  open K use {𝟘}

  put_alike : (i : ℕ) (I : List ℕ) → Alike K (expansion K Q (put i I)) (expansion K Q (i ∷ I))
  unfolding put expansion choose
  put_alike i [] = alike_refl K _
  put_alike i (a ∷ I) = go (dec_lt i a) (put_alike i I)
    where
      go : (d : Dec (i < a)) → Alike K (expansion K Q (put i I)) (along K Q i (expansion K Q I))
          → Alike K (expansion K Q (choose d (i ∷ a ∷ I) (a ∷ put i I))) (along K Q i (along K Q a (expansion K Q I)))
      go (yes l) e = alike_refl K _
      go (no nl) e = alike_trans K _ _ _ (alike_along K Q a _ _ e) (alike_swap K Q i a (expansion K Q I))

  sort_alike : (I : List ℕ) → Alike K (expansion K Q (sort I)) (expansion K Q I)
  unfolding sort expansion
  sort_alike [] = alike_refl K _
  sort_alike (x ∷ L) = alike_trans K _ _ _ (put_alike x (sort L)) (alike_along K Q x _ _ (sort_alike L))

  pub sort_value : (I J : List ℕ) → expansion K Q I J ≢ 𝟘 → expansion K Q (sort I) J ≢ 𝟘
  sort_value I = alike_nonzero K _ _ (sort_alike I)

-- The signed sum over all arrangements is the expansion row by row. Assumes nothing.
use Prim.Native.Nat.{ℕ, zero, suc, ◌+◌ as ◌plus◌, ◌<◌}
use Rattle.std.specs.Prelude.{◌≡◌, refl}
use Rattle.std.proofs.Math.Path.{sym, ap, ap₂, fun_ext}
use Rattle.std.proofs.Common.{◌∙◌, arith}
use Rattle.std.proofs.Math.Bool.{decide, decide_iff}
use mathlib.Core.List.{List, [], ◌∷◌, map}
use Rattle.std.proofs.Math.Decide.{dec_lt}
use Rattle.std.proofs.Math.Nat.{suc-add, zero-add as nat-zero-add, add_left_comm}
use Rattle.residue.specs.Fields.{Field, add_zero, mul_left_comm, mul_zero, neg_mul, neg_zero, one_mul, ring}
use Rattle.counting.specs.Bools.{not_true}
use Rattle.counting.specs.Sets.{indicator}
use Rattle.determinants.specs.Determinant.{insertions, arrangements, smaller, inversions, sign, Each, done, both, Ascending}
use Rattle.determinants.specs.Lists.Each.{each_flat, each_imp, each_map}
use Rattle.determinants.specs.Expansion.Rows.{expansion, along, along_add, along_scale, along_zero, no_rows}
use Rattle.determinants.specs.Expansion.Totals.{total, total_each, total_flat, total_map, total_scale, total_zero}

-- putting i somewhere leaves how many are smaller than x as if it were put first
smaller_insert : (x i : ℕ) (π : List ℕ) → Each (λ ρ. smaller x ρ ≡ smaller x (i ∷ π)) (insertions i π)
unfolding smaller insertions
smaller_insert x i [] = both refl done
smaller_insert x i (y ∷ π) = both refl (each_map (λ ρ. y ∷ ρ) (λ ρ e. rw e (add_left_comm _ _ _)) (insertions i π) (smaller_insert x i π))

smaller_first : (x i : ℕ) (π : List ℕ) → i < x → smaller x (i ∷ π) ≡ suc (smaller x π)
unfolding smaller indicator
smaller_first x i π l = ap (λ b. indicator b plus smaller x π) ((decide_iff (dec_lt i x)).1 l) ∙ omega arith

smaller_above : (i : ℕ) (π : List ℕ) → Each (λ y. i < y) π → smaller i π ≡ 0
unfolding smaller indicator
smaller_above i [] done = refl
smaller_above i (x ∷ π) (both p h) = ap₂ (λ b c. indicator b plus c) (not_true (decide (dec_lt x i)) (λ e. omega (arith, p, (decide_iff (dec_lt x i)).0 e))) (smaller_above i π h)

above_insert : (i h : ℕ) → i < h → (π : List ℕ) → Each (λ y. i < y) π → Each (Each (λ y. i < y)) (insertions h π)
unfolding insertions
above_insert i h l [] done = both (both l done) done
above_insert i h l (x ∷ π) (both p a) = both (both l (both p a)) (each_map (λ ρ. x ∷ ρ) (λ ρ b. both p b) (insertions h π) (above_insert i h l π a))

above_arranged : (i : ℕ) (I : List ℕ) → Each (λ y. i < y) I → Each (Each (λ y. i < y)) (arrangements I)
unfolding arrangements
above_arranged i [] done = both done done
above_arranged i (h ∷ I) (both p a) = each_flat (insertions h) (above_insert i h p) (arrangements I) (above_arranged i I a)

module _ (K : Field) where
  open K use {F, 𝟘, 𝟙, ◌+◌, ◌·◌, neg}

  sign_add : (m n : ℕ) → sign K (m plus n) ≡ sign K m · sign K n
  unfolding sign
  sign_add zero n = rw nat-zero-add (sym (one_mul K _))
  sign_add (suc m) n = rw suc-add (ap neg (sign_add m n) ∙ sym (neg_mul K _ _))

  abbrev pub parity : List ℕ → F
  parity π = sign K (inversions π)

  parity_cons : (x : ℕ) (π : List ℕ) → parity (x ∷ π) ≡ sign K (smaller x π) · parity π
  unfolding inversions
  parity_cons x π = sign_add (smaller x π) (inversions π)

  parity_above : (i : ℕ) (π : List ℕ) → Each (λ y. i < y) π → parity (i ∷ π) ≡ parity π
  parity_above i π a = parity_cons i π ∙ ap (λ z. sign K z · parity π) (smaller_above i π a) ∙ unfold sign in one_mul K _

  -- the product of the entries where row π_s meets column J_s
  module _ (E : ℕ → ℕ → F) where
    unfoldable pub met_entries : List ℕ → List ℕ → F
    met_entries [] [] = 𝟙
    met_entries [] (j ∷ J) = 𝟘
    met_entries (i ∷ π) [] = 𝟘
    met_entries (i ∷ π) (j ∷ J) = E i j · met_entries π J

    abbrev pub signed_product : List ℕ → List ℕ → F
    signed_product J π = parity π · met_entries π J

    along_total : {A : Type 0} (i : ℕ) (f : A → List ℕ → F) (L : List A) (J : List ℕ)
        → along K E i (λ R. total K (λ x. f x R) L) J ≡ total K (λ x. along K E i (f x) J) L
    unfolding total
    along_total i f [] J = along_zero K E i _ (λ R. refl) J
    along_total i f (x ∷ L) J = along_add K E i (f x) (λ R. total K (λ x. f x R) L) J ∙ ap (λ z. along K E i (f x) J + z) (along_total i f L J)

    insert_each : (i x : ℕ) → i < x → (π : List ℕ) (j : ℕ) (S : List ℕ)
        → Each (λ ρ. signed_product (j ∷ S) (x ∷ ρ) ≡ neg (sign K (smaller x π) · E x j) · signed_product S ρ) (insertions i π)
    unfolding met_entries sign
    insert_each i x l π j S = each_imp (λ ρ e. ap (λ z. z · (E x j · met_entries ρ S))
        (parity_cons x ρ ∙ ap (λ z. sign K z · parity ρ) (e ∙ smaller_first x i π l)) ∙ turn _ _ _ _)
        (insertions i π) (smaller_insert x i π)
      where
        turn : (s p e r : F) → neg s · p · (e · r) ≡ neg (s · e) · (p · r)
        turn s p e r = simp ring

    insert_along : (i : ℕ) (π : List ℕ) → Each (λ y. i < y) π → (J : List ℕ) → total K (signed_product J) (insertions i π) ≡ along K E i (λ R. signed_product R π) J
    unfolding insertions total along met_entries
    insert_along i [] a [] = simp ring
    insert_along i [] a (j ∷ S) = ap₂ (λ u v. u · (E i j · met_entries [] S) + v) (parity_above i [] done) (sym (neg_zero K))
        ∙ ap₂ (λ u v. u + neg v) (mul_left_comm K _ _ _) (sym (along_zero K E i (λ R. parity [] · 𝟘) (λ R. mul_zero K _) S))
    insert_along i (x ∷ π) a [] = ap₂ ◌+◌ (mul_zero K _)
        (total_map K (signed_product []) (λ ρ. x ∷ ρ) (insertions i π) ∙ total_zero K _ (λ ρ. mul_zero K _) (insertions i π)) ∙ add_zero K 𝟘
    insert_along i (x ∷ π) (both p a) (j ∷ S) =
        let u : F = sign K (smaller x π) · E x j in
        let left : total K (signed_product (j ∷ S)) (map (λ ρ. x ∷ ρ) (insertions i π)) ≡ neg u · along K E i (λ R. signed_product R π) S
        = total_map K (signed_product (j ∷ S)) (λ ρ. x ∷ ρ) (insertions i π) ∙ total_each K _ _ (insertions i π) (insert_each i x p π j S)
        ∙ total_scale K (neg u) (signed_product S) (insertions i π) ∙ ap (λ z. neg u · z) (insert_along i π a S) in
        let right : along K E i (λ R. signed_product (j ∷ R) (x ∷ π)) S ≡ u · along K E i (λ R. signed_product R π) S
        = ap (λ g. along K E i g S) (fun_ext (λ R. ap (λ z. z · (E x j · met_entries π R)) (parity_cons x π) ∙ turn _ _ _ _))
        ∙ along_scale K E i u (λ R. signed_product R π) S in
        ap₂ (λ y z. y · (E i j · (met_entries (x ∷ π) S)) + z) (parity_above i (x ∷ π) (both p a)) (left ∙ neg_mul K _ _ ∙ ap neg (sym right))
        ∙ ap (λ z. z + neg (along K E i (λ R. signed_product (j ∷ R) (x ∷ π)) S)) (mul_left_comm K _ _ _)
      where
        turn : (s p e r : F) → s · p · (e · r) ≡ s · e · (p · r)
        turn s p e r = simp ring

    start : (J : List ℕ) → total K (signed_product J) ([] ∷ []) ≡ no_rows K E J
    unfolding total met_entries no_rows inversions sign
    start [] = simp ring
    start (j ∷ S) = simp ring

    -- the signed sum over all arrangements
    pub leibniz : (I : List ℕ) → Ascending I → (J : List ℕ) → total K (signed_product J) (arrangements I) ≡ expansion K E I J
    unfolding arrangements expansion
    leibniz [] a J = start J
    leibniz (i ∷ I) a J = total_flat K (signed_product J) (insertions i) (arrangements I)
        ∙ total_each K _ _ (arrangements I) (each_imp (λ π b. insert_along i π b J) (arrangements I) (above_arranged i I a.0))
        ∙ sym (along_total i (λ π R. signed_product R π) (arrangements I) J)
        ∙ ap (λ g. along K E i g J) (fun_ext (λ R. leibniz I a.1 R))

-- No two listings differ. Assumes nothing.
use Prim.Native.Nat.{ℕ, zero, suc, ◌≤◌, ◌<◌}
use Rattle.std.specs.Prelude.{◌≡◌, Bool, ◌||◌}
use Rattle.std.proofs.Math.Path.{refl, ap, fun_ext}
use Rattle.std.proofs.Common.{sym, ◌∙◌, subst, arith}
use Rattle.std.proofs.Math.Decide.{dec_lt}
use Rattle.counting.specs.Sets.{Set, ◌∈◌, Some, any}
use Rattle.counting.specs.Counts.{any_iff}
use Rattle.listings.specs.Blocks.{first_of, block, permitted, ListingBy}
use Rattle.listings.specs.Listings.Tests.{Permitted, permitted_iff, Next}

module _ (n : ℕ) (E : Set) (before share : ℕ → ℕ → Bool) where
  module _ (m m' : ℕ) (B B' : ℕ → Set) (f : ListingBy n E before share m B) (f' : ListingBy n E before share m' B') where
    same_next : (i : ℕ) → i < m → i < m' → first_of B i ≡ first_of B' i → (y : ℕ) → B i y ≡ B' i y
    same_next i l l' e y =
        let w : Next n E before share B i = f.is_next i l in
        let w' : Next n E before share B' i = f'.is_next i l' in
        let k : w.0 ≤ w'.0 = w.2.1 w'.0 w'.1 (subst (λ (D : Set). w'.0 ∈ permitted n E before share D) (sym e) w'.2.0) in
        let k' : w'.0 ≤ w.0 = w'.2.1 w.0 w.1 (subst (λ (D : Set). w.0 ∈ permitted n E before share D) e w.2.0) in
        let d : w.0 ≡ w'.0 = omega arith in
        w.2.2 y ∙ ap (λ (x : ℕ). block n E before share x y) d ∙ sym (w'.2.2 y)

    same_first : (i : ℕ) → i ≤ m → i ≤ m' → first_of B i ≡ first_of B' i
    unfolding first_of any
    same_first zero l l' = refl
    same_first (suc i) l l' =
        let e : first_of B i ≡ first_of B' i = same_first i (omega arith) (omega arith) in
        fun_ext (λ x. ap (λ (t : Bool). t || B i x) (ap (λ (D : Set). D x) e) ∙ ap (λ (t : Bool). first_of B' i x || t) (same_next i l l' e x))

    -- after m blocks all is listed
    not_longer : m < m' → ⊥
    unfolding first_of
    not_longer l =
        let w : Next n E before share B' m = f'.is_next m l in
        let p : Permitted n E before share (first_of B' m) w.0 = (permitted_iff n E before share (first_of B' m) w.0).0 w.2.0 in
        let o : Some m (λ i. w.0 ∈ B i) = f.in_one w.0 p.is_offered in
        p.not_listed (sym (ap (λ (D : Set). D w.0) (same_first m (omega arith) (omega arith))) ∙ (any_iff m (λ k. B k w.0)).1 o)

  pub same_listing : (m m' : ℕ) (B B' : ℕ → Set) → ListingBy n E before share m B → ListingBy n E before share m' B'
      → (m ≡ m') × ((i : ℕ) → i < m → (x : ℕ) → B i x ≡ B' i x)
  same_listing m m' B B' f f' =
      let e : m ≡ m' = elim (dec_lt m m') [
        | yes l ↦ absurd (not_longer m m' B B' f f' l)
        | no nl ↦ elim (dec_lt m' m) [ yes l ↦ absurd (not_longer m' m B' B f' f l) | no nl' ↦ omega arith ]
      ] in
      (e, λ i l. same_next m m' B B' f f' i l (omega arith) (same_first m m' B B' f f' i (omega arith) (omega arith)))

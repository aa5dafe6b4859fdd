-- What is among the members of a list of anything; lists whose members have ascending keys. Assumes nothing.
use Rattle.std.specs.Prelude.{ℕ, ◌<◌, ◌≡◌, refl, List, [], ◌∷◌, map}
use Rattle.std.proofs.Common.{sym, ap, ap₂, subst, ◌∙◌, inl, inr, ⊎_elim, arith}
use Rattle.std.proofs.Math.Logic.{by_cases}
use Rattle.std.proofs.Math.Decide.{ℕ_discrete}
use Rattle.counting.specs.Sets.{◌∈◌, ◌⊆◌}
use Rattle.determinants.specs.Determinant.{Each, done, both, Ascending}
use Rattle.determinants.specs.Statements.{members, Distinct, more, Among}
use Rattle.determinants.specs.Lists.Members.{member_head, member_tail, member_other, not_member}
use Rattle.determinants.specs.Lists.Order.{each_members}

module _ {A : Type 0} where
  pub each_among : {P : A → Type 0} (x : A) (L : List A) → Each P L → Among x L → P x
  each_among x [] done a = absurd a
  each_among {P} x (y ∷ L) (both p h) (inl e) = subst P (sym e) p
  each_among x (y ∷ L) (both p h) (inr a) = each_among x L h a

  module _ (f : A → ℕ) where
    -- the key of one of them is among the keys
    pub among_key : (x : A) (L : List A) → Among x L → f x ∈ members (map f L)
    among_key x [] a = absurd a
    among_key x (y ∷ L) (inl e) = ap (λ z. members (map f (y ∷ L)) (f z)) e ∙ member_head (f y) (map f L)
    among_key x (y ∷ L) (inr a) = member_tail (f y) (map f L) (f x) (among_key x L a)

    -- where no key comes twice, the key says which
    pub same_key : (L : List A) → Distinct (map f L) → (x y : A) → Among x L → Among y L → f x ≡ f y → x ≡ y
    same_key [] d x y a b e = absurd a
    same_key (z ∷ L) (more nz d) x y (inl p) (inl q) e = p ∙ sym q
    same_key (z ∷ L) (more nz d) x y (inl p) (inr b) e = absurd (nz (ap (members (map f L)) (ap f (sym p) ∙ e) ∙ among_key y L b))
    same_key (z ∷ L) (more nz d) x y (inr a) (inl q) e = absurd (nz (ap (members (map f L)) (ap f (sym q) ∙ sym e) ∙ among_key x L a))
    same_key (z ∷ L) (more nz d) x y (inr a) (inr b) e = same_key L d x y a b e

    behind : (x y : A) (L : List A) → Each (λ k. f x < k) (map f L) → Among y L → f x < f y
    behind x y L a m = each_members (λ k. f x < k) (map f L) a (f y) (among_key y L m)

    -- with ascending keys, the same members are the same list
    pub same_list : (L M : List A) → Ascending (map f L) → Ascending (map f M) → ((x : A) → Among x L → Among x M) → ((x : A) → Among x M → Among x L) → L ≡ M
    same_list [] [] a b h k = refl
    same_list [] (y ∷ M) a b h k = absurd (k y (inl refl))
    same_list (x ∷ L) [] a b h k = absurd (h x (inl refl))
    same_list (x ∷ L) (y ∷ M) a b h k = ap₂ ◌∷◌ heads (same_list L M a.1 b.1
        (λ z m. ⊎_elim (λ e. absurd (again x L a.0 z m (e ∙ sym heads))) (λ r. r) (h z (inr m)))
        (λ z m. ⊎_elim (λ e. absurd (again y M b.0 z m (e ∙ heads))) (λ r. r) (k z (inr m))))
      where
        heads : x ≡ y
        heads = ⊎_elim (λ e. e) (λ m. ⊎_elim (λ e. sym e)
            (λ r. let p : f y < f x = behind y x M b.0 m in let q : f x < f y = behind x y L a.0 r in absurd (omega arith)) (k y (inl refl))) (h x (inl refl))

        again : (w : A) (N : List A) → Each (λ j. f w < j) (map f N) → (z : A) → Among z N → z ≡ w → ⊥
        again w N c z m e = let p : f w < f z = behind w z N c m in omega (arith, ap f e)

-- numbers among a list are its members
among_member : (k : ℕ) (I : List ℕ) → Among k I → k ∈ members I
among_member k [] a = absurd a
among_member k (i ∷ I) (inl e) = rw e (member_head i I)
among_member k (i ∷ I) (inr a) = member_tail i I k (among_member k I a)

member_among : (k : ℕ) (I : List ℕ) → k ∈ members I → Among k I
member_among k [] m = absurd (not_member k m)
member_among k (i ∷ I) m = by_cases (ℕ_discrete k i) (λ e. inl e) (λ ne. inr (member_among k I (member_other i I k ne m)))

map_same : (I : List ℕ) → map (λ (k : ℕ). k) I ≡ I
map_same [] = refl
map_same (i ∷ I) = ap (λ L. i ∷ L) (map_same I)

-- ascending lists with the same members
pub ascending_same : (I L : List ℕ) → Ascending I → Ascending L → members I ⊆ members L → members L ⊆ members I → I ≡ L
ascending_same I L a b h k = same_list (λ k. k) I L (subst Ascending (sym (map_same I)) a) (subst Ascending (sym (map_same L)) b)
    (λ x m. member_among x L (h x (among_member x I m))) (λ x m. member_among x I (k x (among_member x L m)))

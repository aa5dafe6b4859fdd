-- Ascending lists, and sorting. Assumes nothing.
use Rattle.std.specs.Prelude.{ℕ, suc, ◌<◌, ◌≡◌, refl, true, List, [], ◌∷◌, map, ◌≢◌, length}
use Rattle.std.proofs.Common.{sym, ap, subst, ◌∙◌, arith}
use Rattle.std.proofs.Math.Logic.{by_cases}
use Rattle.std.proofs.Math.Decide.{ℕ_discrete, dec_lt}
use Rattle.counting.specs.Counts.{set_set}
use Rattle.counting.specs.Sets.{◌∈◌, choose, set}
use Rattle.determinants.specs.Determinant.{Each, done, both, Ascending}
use Rattle.determinants.specs.Statements.{members, Distinct, none, more}
use Rattle.determinants.specs.Lists.Each.{each_imp}
use Rattle.determinants.specs.Lists.Members.{member_head, member_tail, member_other, not_member}

-- a statement about each number in a list, by its members
pub each_members : (P : ℕ → Type 0) (J : List ℕ) → Each P J → (k : ℕ) → k ∈ members J → P k
each_members P [] done k m = absurd (not_member k m)
each_members P (j ∷ J) (both p h) k m = by_cases (ℕ_discrete k j) (λ e. subst P (sym e) p) (λ ne. each_members P J h k (member_other j J k ne m))

pub members_each : (P : ℕ → Type 0) (J : List ℕ) → ((k : ℕ) → k ∈ members J → P k) → Each P J
members_each P [] b = done
members_each P (j ∷ J) b = both (b j (member_head j J)) (members_each P J (λ k m. b k (member_tail j J k m)))

-- a number among those that a function makes is made of one of them
pub member_map : {A : Type 0} {P : A → Type 0} (f : A → ℕ) (l : List A) → Each P l → (k : ℕ) → k ∈ members (map f l) → (x : A) × P x × (f x ≡ k)
member_map f [] done k m = absurd (not_member k m)
member_map f (x ∷ l) (both p h) k m = by_cases (ℕ_discrete k (f x)) (λ e. (x, p, sym e)) (λ ne. member_map f l h k (member_other (f x) (map f l) k ne m))

pub above_apart : (i : ℕ) (I : List ℕ) → Each (λ x. i < x) I → members I i ≢ true
above_apart i I a m = let l : i < i = each_members (λ x. i < x) I a i m in omega arith

pub ascending_distinct : (I : List ℕ) → Ascending I → Distinct I
ascending_distinct [] a = none
ascending_distinct (i ∷ I) a = more (above_apart i I a.0) (ascending_distinct I a.1)

-- i put in its place
unfoldable pub put : ℕ → List ℕ → List ℕ
put i [] = i ∷ []
put i (a ∷ I) = choose (dec_lt i a) (i ∷ a ∷ I) (a ∷ put i I)

unfoldable pub sort : List ℕ → List ℕ
sort [] = []
sort (x ∷ L) = put x (sort L)

put_members : (i : ℕ) (I : List ℕ) → members (put i I) ≡ members (i ∷ I)
unfolding put members choose
put_members i [] = refl
put_members i (a ∷ I) = go (dec_lt i a) (put_members i I)
  where
    go : (d : Dec (i < a)) → members (put i I) ≡ members (i ∷ I) → members (choose d (i ∷ a ∷ I) (a ∷ put i I)) ≡ set (set (members I) a true) i true
    go (yes l) e = refl
    go (no nl) e = ap (λ S. set S a true) e ∙ set_set (members I) i a

put_length : (i : ℕ) (I : List ℕ) → length (put i I) ≡ suc (length I)
unfolding put choose
put_length i [] = refl
put_length i (a ∷ I) = go (dec_lt i a) (put_length i I)
  where
    go : (d : Dec (i < a)) → length (put i I) ≡ suc (length I) → length (choose d (i ∷ a ∷ I) (a ∷ put i I)) ≡ suc (suc (length I))
    go (yes l) e = refl
    go (no nl) e = ap suc e

put_above : (h i : ℕ) (I : List ℕ) → h < i → Each (λ x. h < x) I → Each (λ x. h < x) (put i I)
unfolding put choose
put_above h i [] l a = both l done
put_above h i (x ∷ I) l (both p a) = go (dec_lt i x) (put_above h i I l a)
  where
    go : (d : Dec (i < x)) → Each (λ y. h < y) (put i I) → Each (λ y. h < y) (choose d (i ∷ x ∷ I) (x ∷ put i I))
    go (yes _) e = both l (both p a)
    go (no nl) e = both p e

put_ascending : (i : ℕ) (I : List ℕ) → members I i ≢ true → Ascending I → Ascending (put i I)
unfolding put choose
put_ascending i [] nm a = (done, tt)
put_ascending i (x ∷ I) nm a = go (dec_lt i x) (put_ascending i I (λ m. nm (member_tail x I i m)) a.1)
  where
    go : (d : Dec (i < x)) → Ascending (put i I) → Ascending (choose d (i ∷ x ∷ I) (x ∷ put i I))
    go (yes l) e = (both l (each_imp (λ y (h : x < y). omega (arith, h)) I a.0), a)
    go (no nl) e =
        let apart : i ≢ x = λ q. nm (ap (members (x ∷ I)) q ∙ member_head x I) in
        (put_above x i I (omega arith) a.0, e)

pub sort_members : (L : List ℕ) → members (sort L) ≡ members L
unfolding sort members
sort_members [] = refl
sort_members (x ∷ L) = put_members x (sort L) ∙ ap (λ S. set S x true) (sort_members L)

pub sort_length : (L : List ℕ) → length (sort L) ≡ length L
unfolding sort
sort_length [] = refl
sort_length (x ∷ L) = put_length x (sort L) ∙ ap suc (sort_length L)

pub sort_ascending : (L : List ℕ) → Distinct L → Ascending (sort L)
unfolding sort
sort_ascending [] none = tt
sort_ascending (x ∷ L) (more nm d) = put_ascending x (sort L) (λ m. nm (sym (ap (λ S. S x) (sort_members L)) ∙ m)) (sort_ascending L d)

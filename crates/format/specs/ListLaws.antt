-- The laws of tests and statements about every element of a list. Assumes nothing.
use Rattle.std.specs.Prelude.{ℕ, zero, suc, ◌+◌, ◌-◌, ◌≤◌, ◌<◌, min, max, ◌≡◌, refl, ◌↔◌, Bool, true, false, ◌&&◌, List, [], ◌∷◌, ◌++◌, length, get_or, take, drop, ltb}
use Rattle.std.proofs.Common.{sym, ap, ◌∙◌, add-one, arith, length-take, length-drop, drop_of_length-le, take_all, drop-cons, get_or-take}
use Rattle.std.proofs.Math.Bool.{and_assoc}
use Rattle.std.proofs.Math.Nat.{zero-max}
use Rattle.std.proofs.lemmas.Bool.Decides.{nat_tests}
use Rattle.counting.specs.Bools.{and_in, and_left, and_right}
use Rattle.std.specs.List.{list_all, range_with_len, fold}
use Rattle.format.specs.Lists.{all_pass, All}

-- a test of every element, by what the test of one says
pub all_pass_all : {A : Type 0} (f : A → Bool) (Is : A → Type 0) → ((x : A) → (f x ≡ true) ↔ Is x) → (xs : List A) → (all_pass f xs ≡ true) ↔ All Is xs
unfolding all_pass
all_pass_all {A} f Is h xs = (to xs, from xs)
  where
    to : (xs : List A) → all_pass f xs ≡ true → All Is xs
    to [] e = tt
    to (x ∷ xs) e = ((h x).0 (and_left (f x) (all_pass f xs) e), to xs (and_right (f x) (all_pass f xs) e))

    from : (xs : List A) → All Is xs → all_pass f xs ≡ true
    from [] v = refl
    from (x ∷ xs) v = and_in ((h x).1 v.0) (from xs v.1)

pub all_at : {A : Type 0} (Is : A → Type 0) (xs : List A) (d : A) → All Is xs → (i : ℕ) → i < length xs → Is (get_or xs i d)
all_at Is [] d v i l = absurd (omega arith)
all_at Is (x ∷ xs) d v zero l = v.0
all_at Is (x ∷ xs) d v (suc i) l = all_at Is xs d v.1 i (omega arith)

-- the library's word for it
pub all_pass_is : {A : Type 0} (f : A → Bool) (xs : List A) → list_all f xs ≡ all_pass f xs
unfolding all_pass
all_pass_is f [] = refl
all_pass_is f (x ∷ xs) = ap (λ (b : Bool). f x && b) (all_pass_is f xs)

-- element by element, as loops test them
pub all_pass_fails : (f : ℕ → Bool) (x : ℕ) (xs : List ℕ) → f x ≡ false → all_pass f (x ∷ xs) ≡ false
unfolding all_pass
all_pass_fails f x xs e = rw e refl

pub all_pass_next : (f : ℕ → Bool) (x : ℕ) (xs : List ℕ) → f x ≡ true → all_pass f (x ∷ xs) ≡ all_pass f xs
unfolding all_pass
all_pass_next f x xs e = rw e refl

pub all_pass_done : (f : ℕ → Bool) → all_pass f [] ≡ true
unfolding all_pass
all_pass_done f = refl

pub all_pass_append : (f : ℕ → Bool) (xs ys : List ℕ) → all_pass f (xs ++ ys) ≡ all_pass f xs && all_pass f ys
unfolding all_pass
all_pass_append f [] ys = refl
all_pass_append f (x ∷ xs) ys = ap (λ (b : Bool). f x && b) (all_pass_append f xs ys) ∙ sym (and_assoc (f x) (all_pass f xs) (all_pass f ys))

-- a list by its first element and the rest
pub first_rest : (xs : List ℕ) → 0 < length xs → xs ≡ get_or xs 0 0 ∷ drop 1 xs
first_rest xs l = drop-cons xs 0 0 l

pub nothing : (xs : List ℕ) → length xs ≤ 0 → xs ≡ []
nothing [] l = refl
nothing (x ∷ xs) l = absurd (omega arith)

-- of the first b elements, those from r on
pub first_left : (b r : ℕ) (xs : List ℕ) → r < b → r < length xs → drop r (take b xs) ≡ get_or xs r 0 ∷ drop (r + 1) (take b xs)
first_left b r xs l h =
    drop-cons (take b xs) r 0 (rw (length-take b xs) (omega arith)) ∙ ap (λ (x : ℕ). x ∷ drop (suc r) (take b xs)) (get_or-take b xs r 0 l)
    ∙ ap (λ (k : ℕ). get_or xs r 0 ∷ drop k (take b xs)) (sym (add-one r))

-- there are none from their end on
pub none_left : (b r : ℕ) (xs : List ℕ) → min b (length xs) ≤ r → drop r (take b xs) ≡ []
none_left b r xs h = drop_of_length-le (take b xs) {i = r} (rw (length-take b xs) h)

-- a part that goes to the end
pub tail_part : (k : ℕ) (xs : List ℕ) → take (length xs - k) (drop k xs) ≡ drop k xs
tail_part k xs = take_all (length xs - k) (drop k xs) (simp length-drop (omega arith))

-- a test of the first b elements, place by place
pub front_passes : (f : ℕ → Bool) (b : ℕ) (xs : List ℕ) → list_all (λ r. f (get_or xs r 0)) (range_with_len 0 (min b (length xs))) ≡ all_pass f (take b xs)
unfolding all_pass
front_passes f b xs = go 0 (min b (length xs)) (omega arith)
  where
    go : (r k : ℕ) → r + k ≡ min b (length xs) → list_all (λ i. f (get_or xs i 0)) (range_with_len r k) ≡ all_pass f (drop r (take b xs))
    go r zero e = sym (ap (all_pass f) (none_left b r xs (omega arith)))
    go r (suc k) e = ap (λ (t : Bool). f (get_or xs r 0) && t) (go (r + 1) k (omega arith)) ∙ sym (ap (all_pass f) (first_left b r xs (omega arith) (omega arith)))

-- whether all are below p, by the largest of them and of a first one
largest_from : (p a : ℕ) (xs : List ℕ) → ltb (fold max a xs) p ≡ ltb a p && all_pass (λ c. ltb c p) xs
unfolding all_pass
largest_from p a [] = grind (arith, nat_tests)
largest_from p a (x ∷ xs) =
    let both : ltb (max a x) p ≡ ltb a p && ltb x p = grind (arith, nat_tests) in
    largest_from p (max a x) xs ∙ rw both (and_assoc (ltb a p) (ltb x p) (all_pass (λ c. ltb c p) xs))

-- the same by the largest of them, where there is one
pub largest_below : (p : ℕ) (xs : List ℕ) → 0 < length xs → ltb (fold max 0 xs) p ≡ all_pass (λ c. ltb c p) xs
unfolding all_pass
largest_below p [] l = absurd (omega arith)
largest_below p (x ∷ xs) l = rw zero-max (largest_from p x xs)

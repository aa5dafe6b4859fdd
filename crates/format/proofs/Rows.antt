-- Rows one after the other in an area, and what stands at the front of it. Assumes nothing.
use Prim.Native.Nat.{ℕ, zero, suc, ◌+◌, ◌-◌, ◌*◌, ◌≤◌, ◌<◌}
use mathlib.Core.Path.{◌≡◌, refl, sym, ap, ap₂, ◌∙◌}
use mathlib.Core.List.{List, [], ◌∷◌, ◌++◌, flatten, append_assoc}
use native.Mathlib.Omega.{arith}
use native.Mathlib.Nat.{suc-mul, zero-mul, zero-add, suc-add}
use lib.ListN.{length, take, drop, length-append}
use lib.Seq.{take_at, drop_at, take-add, take-take, take-nil}
use Rattle.format.specs.Lists.{All, rows_of, over}

-- the front of an area is what was written over it
pub over_front : (xs d : List ℕ) (k : ℕ) → length xs ≡ k → take k (over xs d) ≡ xs
unfolding over
over_front xs d k e = take_at xs (drop (length xs) d) k e

-- every row is as long as stated, and its elements are as stated
abbrev pub AreRows : (Is : ℕ → Type 0) (n : ℕ) → List (List ℕ) → Type 0
AreRows Is n rs = All (λ r. (length r ≡ n) × All Is r) rs

all_append : {A : Type 0} (Is : A → Type 0) (xs ys : List A) → All Is xs → All Is ys → All Is (xs ++ ys)
all_append Is [] ys h k = k
all_append Is (x ∷ xs) ys h k = (h.0, all_append Is xs ys h.1 k)

pub all_second : {A : Type 0} (Is Also : A → Type 0) (xs : List A) → All (λ x. Also x × Is x) xs → All Is xs
all_second Is Also [] h = tt
all_second Is Also (x ∷ xs) h = (h.0.1, all_second Is Also xs h.1)

module _ (Is : ℕ → Type 0) (n : ℕ) where
  pub flat_length : (rs : List (List ℕ)) → AreRows Is n rs → length (flatten rs) ≡ length rs * n
  unfolding flatten
  flat_length [] h = sym (zero-mul n)
  flat_length (r ∷ rs) h = omega (arith, length-append r (flatten rs), h.0.0, flat_length rs h.1, suc-mul (length rs) n)

  pub flat_all : (rs : List (List ℕ)) → AreRows Is n rs → All Is (flatten rs)
  unfolding flatten
  flat_all [] h = tt
  flat_all (r ∷ rs) h = all_append Is r (flatten rs) h.0.1 (flat_all rs h.1)

  -- rows that were put one after the other are cut out again
  pub rows_of_flat : (rs : List (List ℕ)) (t : List ℕ) → AreRows Is n rs → rows_of n (length rs) (flatten rs ++ t) ≡ rs
  unfolding flatten rows_of
  rows_of_flat [] t h = refl
  rows_of_flat (r ∷ rs) t h =
      let e : (r ++ flatten rs) ++ t ≡ r ++ (flatten rs ++ t) = append_assoc r (flatten rs) t in
      let f : take n ((r ++ flatten rs) ++ t) ≡ r = ap (take n) e ∙ take_at r (flatten rs ++ t) n h.0.0 in
      let g : drop n ((r ++ flatten rs) ++ t) ≡ flatten rs ++ t = ap (drop n) e ∙ drop_at r (flatten rs ++ t) n h.0.0 in
      ap₂ (λ (x : List ℕ) (xs : List (List ℕ)). x ∷ xs) f (ap (rows_of n (length rs)) g ∙ rows_of_flat rs t h.1)

  pub rows_of_over : (rs : List (List ℕ)) (k : ℕ) (d : List ℕ) → length rs ≡ k → AreRows Is n rs → rows_of n k (over (flatten rs) d) ≡ rs
  unfolding over
  rows_of_over rs k d e h = ap (λ (j : ℕ). rows_of n j (over (flatten rs) d)) (sym e) ∙ rows_of_flat rs (drop (length (flatten rs)) d) h

-- rows that were cut out give the front again
pub flat_of_rows : (n k : ℕ) (xs : List ℕ) → flatten (rows_of n k xs) ≡ take (k * n) xs
unfolding flatten rows_of
flat_of_rows n zero xs = ap (λ (j : ℕ). take j xs) (sym (zero-mul n))
flat_of_rows n (suc k) xs =
    let m : n + k * n ≡ suc k * n = omega (arith, suc-mul k n) in
    ap (λ (t : List ℕ). take n xs ++ t) (flat_of_rows n k (drop n xs)) ∙ sym (take-add n (k * n) xs) ∙ ap (λ (j : ℕ). take j xs) m

drop_take_add : (n m : ℕ) (xs : List ℕ) → drop n (take (n + m) xs) ≡ take m (drop n xs)
drop_take_add zero m xs = ap (λ (k : ℕ). take k xs) (zero-add m)
drop_take_add (suc n) m [] = ap (drop (suc n)) (take-nil (suc n + m)) ∙ sym (take-nil m)
drop_take_add (suc n) m (x ∷ xs) = ap (λ (k : ℕ). drop (suc n) (take k (x ∷ xs))) (suc-add n m) ∙ drop_take_add n m xs

-- rows are cut out of the front alone
pub rows_of_take : (n k : ℕ) (xs : List ℕ) → rows_of n k (take (k * n) xs) ≡ rows_of n k xs
unfolding rows_of
rows_of_take n zero xs = refl
rows_of_take n (suc k) xs =
    let m : suc k * n ≡ n + k * n = omega (arith, suc-mul k n) in
    ap₂ (λ (r : List ℕ) (rs : List (List ℕ)). r ∷ rs) (take-take n (suc k * n) xs (omega arith))
    (ap (λ (j : ℕ). rows_of n k (drop n (take j xs))) m ∙ ap (rows_of n k) (drop_take_add n (k * n) xs) ∙ rows_of_take n k (drop n xs))

-- what is left of an area holds the rows that are left
pub rows_room : (n b r l : ℕ) → r < b → (b - r) * n ≤ l → (n ≤ l) × ((b - (r + 1)) * n ≤ l - n)
rows_room n b r l h e =
    let q : b - r ≡ suc (b - (r + 1)) = omega arith in
    let m : suc (b - (r + 1)) * n ≡ (b - (r + 1)) * n + n = suc-mul (b - (r + 1)) n in
    let k : suc (b - (r + 1)) * n ≤ l = rw q at e in
    (omega arith, omega arith)

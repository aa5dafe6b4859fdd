-- The laws of numbers that stand once, of rows of numbers, and of the table of those met. Assumes nothing.
use Prim.Native.Nat.{ℕ, zero, suc, ◌+◌, ◌-◌, ◌*◌, ◌/◌, ◌%◌, ◌^◌, ◌≤◌, ◌<◌}
use Rattle.std.proofs.Math.Path.{Path, refl, sym, ap}
use Rattle.std.specs.Prelude.{◌≡◌, Bool, ◌&&◌, ◌||◌, take, drop, set, replicate, eqb}
use Rattle.std.proofs.Common.{ap₂, ◌∙◌, subst, ⊎_elim, length-append, length-drop, drop_of_length-le, zero-add, suc-mul, zero-mul, add-one, get_or-set_same, get_or-set_other, length-take-le, drop-cons, take_at, drop_at, get_or-drop, eqb-true, eq-eqb, lt-ltb}
use Rattle.std.proofs.Math.Logic.{by_cases}
use Rattle.std.proofs.Math.Bool.{true, false, not, cond}
use Rattle.std.proofs.lemmas.Bool.{false≢true}
use mathlib.Core.List.{List, [], ◌∷◌, ◌++◌, append_assoc, append-nil, zip, zip_with}
use native.Mathlib.Omega.{arith}
use Rattle.std.proofs.Math.Decide.{ℕ_discrete, dec_lt}
use Rattle.std.proofs.Math.ListN.{length, get_or, length-set}
use Rattle.counting.specs.Bools.{iff_eq, and_left, and_right, and_in, or_left, or_right, or_split, not_in, in_not, not_true}
use Rattle.counting.specs.Sets.{Set, #, indicator}
use Rattle.counting.specs.Counts.{#-ext, #-none}
use Rattle.counting.specs.Blocks.{#-plus}
use Rattle.columns.specs.Columns.{word_width, width, members, within, inserted_in}
use Rattle.columns.specs.Words.Operations.{members_zero, members_beyond, members_below, members_ext, within_iff, and_true}
use Rattle.format.specs.Lists.{All}
use Rattle.format.specs.ListLaws.{first_rest, nothing}
use Rattle.format.specs.Numbers.{stands_in, once, parameter_count, picked, spread, numbers_in, entries_for}
use Rattle.format.specs.NumberTable.{table_words, place, marked, Keeps, Meets, entry_at}

-- ---- numbers that stand once

pub stands_append : (k : ℕ) (xs ys : List ℕ) → stands_in k (xs ++ ys) ≡ (stands_in k xs || stands_in k ys)
unfolding stands_in
stands_append k [] ys = refl
stands_append k (x ∷ xs) ys = ap (λ (b : Bool). eqb k x || b) (stands_append k xs ys) ∙ assoc (eqb k x) (stands_in k xs) (stands_in k ys)
  where
    assoc : (a b c : Bool) → (a || (b || c)) ≡ ((a || b) || c)
    assoc true b c = refl
    assoc false b c = refl

eqb_sym : (x y : ℕ) → eqb x y ≡ eqb y x
eqb_sym x y = iff_eq (eqb x y) (eqb y x) (λ e. eq-eqb y x (sym (eqb-true x y e))) (λ e. eq-eqb x y (sym (eqb-true y x e)))

-- the front of numbers that stand once
pub once_front : (xs ys : List ℕ) → once (xs ++ ys) ≡ true → once xs ≡ true
unfolding once
once_front [] ys e = refl
once_front (x ∷ xs) ys e =
    let l = not_in _ (and_left (not (stands_in x (xs ++ ys))) (once (xs ++ ys)) e) in
    and_in (in_not (stands_in x xs) (not_true _ (λ s. false≢true (sym l ∙ stands_append x xs ys ∙ or_left _ (stands_in x ys) s))))
    (once_front xs ys (and_right (not (stands_in x (xs ++ ys))) (once (xs ++ ys)) e))

-- one more number
once_next : (xs : List ℕ) (k : ℕ) → once xs ≡ true → once (xs ++ (k ∷ [])) ≡ not (stands_in k xs)
unfolding once stands_in
once_next [] k e = refl
once_next (x ∷ xs) k e =
    let l = and_left (not (stands_in x xs)) (once xs) e in
    let i = once_next xs k (and_right (not (stands_in x xs)) (once xs) e) in
    let s : stands_in x (xs ++ (k ∷ [])) ≡ (stands_in x xs || (eqb x k || false)) = stands_append x xs (k ∷ []) in
    ap (λ (b : Bool). not b && once (xs ++ (k ∷ []))) s ∙ ap (λ (b : Bool). not (stands_in x xs || (eqb x k || false)) && b) i
    ∙ both (stands_in x xs) (eqb x k) (eqb k x) (stands_in k xs) (not_in _ l) (eqb_sym x k)
  where
    both : (a b c d : Bool) → a ≡ false → b ≡ c → (not (a || (b || false)) && not d) ≡ not (c || d)
    both true b c d e f = absurd (false≢true (sym e))
    both false true true d e f = refl
    both false true false d e f = absurd (false≢true (sym f))
    both false false true d e f = absurd (false≢true f)
    both false false false d e f = refl

-- ---- the table

inserts : (S : Set) (x y : ℕ) → y < word_width → inserted_in word_width S y x ≡ (S x || eqb x y)
unfolding inserted_in
inserts S x y l = ap (λ (b : Bool). S x || b) (ap (λ (b : Bool). eqb x y && b) (lt-ltb y word_width l) ∙ sym (and_true (eqb x y)))

-- a word with a bit that it has is the same word, and else another
pub bit_new : (v w x : ℕ) → v < 2 ^ word_width → w < 2 ^ word_width → x < word_width → members v ≡ inserted_in word_width (members w) x → (v ≡ w → members w x ≡ true) × (members w x ≡ true → v ≡ w)
bit_new v w x lv lw l e = (
  (λ q. ap (λ (S : Set). S x) (ap members (sym q) ∙ e) ∙ inserts (members w) x x l ∙ or_right (members w x) (eqb x x) (eq-eqb x x refl)),
  λ q. members_ext word_width v w lv lw (λ y m. ap (λ (S : Set). S y) e ∙ inserts (members w) y x l ∙ same y q),
)
  where
    same : (y : ℕ) → members w x ≡ true → (members w y || eqb y x) ≡ members w y
    same y q = iff_eq (members w y || eqb y x) (members w y) (λ t. ⊎_elim (λ r. r) (λ r. ap (members w) (eqb-true y x r) ∙ q) (or_split (members w y) (eqb y x) t)) (λ t. or_left (members w y) (eqb y x) t)

-- a place is that of one number
digits : (u v u' v' : ℕ) → v < 256 → v' < 256 → 256 * u + v ≡ 256 * u' + v' → (u ≡ u') × (v ≡ v')
digits u v u' v' l l' e = (omega arith, omega arith)

same_sum : (x y z : ℕ) → x < 256 → y < 256 → (x + z) % 256 ≡ (y + z) % 256 → x ≡ y
same_sum x y z l m e = omega arith

one_place : (j k : ℕ) → j < 65536 → k < 65536 → place j ≡ place k → j ≡ k
one_place j k l m e =
    let d = digits ((j % 256 + j / 256) % 256) (j / 256) ((k % 256 + k / 256) % 256) (k / 256) (omega arith) (omega arith) e in
    let low = same_sum (j % 256) (k % 256) (j / 256) (omega arith) (omega arith) (d.0 ∙ ap (λ (h : ℕ). (k % 256 + h) % 256) (sym d.1)) in
    omega (arith, low, d.1)

module _ (table : List ℕ) (k : ℕ) (below : k < 65536) where
  -- a number that is marked was met
  pub meets_again : marked table k ≡ true → Meets (k ∷ []) table table false
  meets_again m =
      record {
        same_length = refl;
        told = λ before h. sym (once_next before k h.met_once ∙ ap not (sym (h.marks k below) ∙ m));
        kept = λ before h e. absurd (false≢true e);
      }

  -- one that is not is marked from now on
  pub meets_first : (w : ℕ) → length table ≡ table_words → members w ≡ inserted_in word_width (members (get_or table (place k / word_width) 0)) (place k % word_width) → marked table k ≡ false
      → Meets (k ∷ []) table (set table (place k / word_width) w) true
  unfolding stands_in
  meets_first w len e m =
      record {
        same_length = length-set table (place k / word_width) w;
        told = λ before h. sym (fresh before h);
        kept = λ before h _. record { marks = λ j l. marks before h j l; met_once = fresh before h };
      }
    where
      fresh : (before : List ℕ) → Keeps before table → once (before ++ (k ∷ [])) ≡ true
      fresh before h = once_next before k h.met_once ∙ ap not (sym (h.marks k below) ∙ m)

      or_none : (b : Bool) → (b || false) ≡ true → b ≡ true
      or_none true e = refl
      or_none false e = e

      same_place : (j : ℕ) → j < 65536 → place j / word_width ≡ place k / word_width → eqb (place j % word_width) (place k % word_width) ≡ (eqb j k || false)
      same_place j l q =
          iff_eq (eqb (place j % word_width) (place k % word_width)) (eqb j k || false)
          (λ b. or_left (eqb j k) false (eq-eqb j k (one_place j k l below (omega (arith, eqb-true (place j % word_width) (place k % word_width) b, q)))))
          (λ b. eq-eqb _ _ (ap (λ (i : ℕ). place i % word_width) (eqb-true j k (or_none (eqb j k) b))))

      other : (a b : Bool) → b ≡ false → a ≡ (a || (b || false))
      other true b e = refl
      other false true e = absurd (false≢true (sym e))
      other false false e = refl

      marks : (before : List ℕ) → Keeps before table → (j : ℕ) → j < 65536 → marked (set table (place k / word_width) w) j ≡ stands_in j (before ++ (k ∷ []))
      marks before h j l =
          let old = members (get_or table (place k / word_width) 0) in
          let held : place k / word_width < length table = omega (arith, len) in
          let after : stands_in j (before ++ (k ∷ [])) ≡ (stands_in j before || (eqb j k || false)) = stands_append j before (k ∷ []) in
          by_cases (ℕ_discrete (place j / word_width) (place k / word_width))
          (λ q.
          let here : get_or (set table (place k / word_width) w) (place j / word_width) 0 ≡ w = ap (λ (i : ℕ). get_or (set table (place k / word_width) w) i 0) q ∙ get_or-set_same table (place k / word_width) w 0 held in
          let was : old (place j % word_width) ≡ stands_in j before = ap (λ (i : ℕ). members (get_or table i 0) (place j % word_width)) (sym q) ∙ h.marks j l in
          ap (λ (v : ℕ). members v (place j % word_width)) here ∙ ap (λ (S : Set). S (place j % word_width)) e ∙ inserts old (place j % word_width) (place k % word_width) (omega arith)
          ∙ ap (λ (b : Bool). b || eqb (place j % word_width) (place k % word_width)) was ∙ ap (λ (b : Bool). stands_in j before || b) (same_place j l q) ∙ sym after)
          (λ nq.
          ap (λ (v : ℕ). members v (place j % word_width)) (get_or-set_other table (place k / word_width) (place j / word_width) w 0 nq) ∙ h.marks j l
          ∙ other (stands_in j before) (eqb j k) (not_true _ (λ b. nq (ap (λ (i : ℕ). place i / word_width) (eqb-true j k b)))) ∙ sym after)

-- a table without a mark, before any number was met
pub zeros : (n i : ℕ) → Path ℕ (get_or (replicate n 0) i 0) 0
zeros zero i = refl
zeros (suc n) zero = refl
zeros (suc n) (suc i) = zeros n i

pub keeps_none : (table : List ℕ) → ((i : ℕ) → get_or table i 0 ≡ 0) → Keeps [] table
unfolding stands_in once
keeps_none table z =
    record {
      marks = λ k h. ap (λ (w : ℕ). members w (place k % word_width)) (z (place k / word_width)) ∙ ap (λ (S : Set). S (place k % word_width)) members_zero;
      met_once = refl;
    }

-- ---- numbers met one after another

pub meets_none : (table : List ℕ) → Meets [] table table true
meets_none table =
    record {
      same_length = refl;
      told = λ before h. sym (ap once (append-nil before) ∙ h.met_once);
      kept = λ before h _. subst (λ (b : List ℕ). Keeps b table) (sym (append-nil before)) h;
    }

module _ {ks table table' : List ℕ} where
  -- where one is met again, what comes after it does not matter
  pub meets_stop : (more : List ℕ) → Meets ks table table' false → Meets (ks ++ more) table table' false
  meets_stop more m =
      record {
        same_length = m.same_length;
        told = λ before h. sym (not_true _ (λ e. false≢true (m.told before h ∙ once_front (before ++ ks) more (ap once (append_assoc before ks more) ∙ e))));
        kept = λ before h e. absurd (false≢true e);
      }

  pub meets_on : {more table'' : List ℕ} {r : Bool} → Meets ks table table' true → Meets more table' table'' r → Meets (ks ++ more) table table'' r
  meets_on {more} {table''} {r} m n =
      record {
        same_length = n.same_length ∙ m.same_length;
        told = λ before h. n.told (before ++ ks) (m.kept before h refl) ∙ ap once (append_assoc before ks more);
        kept = λ before h e. subst (λ (b : List ℕ). Keeps b table'') (append_assoc before ks more) (n.kept (before ++ ks) (m.kept before h refl) e);
      }

-- ---- rows

-- a row's parameters are all below n
pub count_within : (n w : ℕ) → w < 2 ^ width → within n w ≡ true → # width (members w) ≡ parameter_count n w
unfolding parameter_count
count_within n w l e =
    elim (dec_lt width n) [
      | yes h ↦ sym (more width n (omega arith) (λ x b. members_beyond width w x l b))
      | no h ↦ more n width (omega arith) (λ x b. not_true _ (λ m. above x b (inside x m)))
    ]
  where
    inside : (x : ℕ) → members w x ≡ true → x < n
    inside x m = (within_iff n w).0 e x (members_below w x l m) m

    above : (x : ℕ) → n ≤ x → x < n → ⊥
    above x b h = omega arith

    none_above : (k : ℕ) (S : Set) → ((x : ℕ) → S x ≡ false) → # k S ≡ 0
    none_above k S z = #-ext k S (λ x. false) (λ i _. z i) ∙ #-none k

    more : (m k : ℕ) → m ≤ k → ((x : ℕ) → m ≤ x → members w x ≡ false) → # k (members w) ≡ # m (members w)
    more m k h z =
        let q : k ≡ m + (k - m) = omega arith in
        ap (λ (j : ℕ). # j (members w)) q ∙ #-plus m (k - m) (members w)
        ∙ ap (λ (j : ℕ). # m (members w) + j) (none_above (k - m) (λ r. members w (m + r)) (λ r. z (m + r) (omega arith))) ∙ omega arith

-- column by column
#-first : (n : ℕ) (S : Set) → # (suc n) S ≡ indicator (S 0) + # n (λ x. S (suc x))
unfolding #
#-first zero S = refl
#-first (suc n) S = let i = #-first n S in omega arith

-- by what a test says
pub split : (b : Bool) (Is : Bool → Type 0) → (b ≡ true → Is true) → (b ≡ false → Is false) → Is b
split true Is t f = t refl
split false Is t f = f refl

module _ (S : Set) where
  -- those from column c on, by column c and the others
  #-from : (c n : ℕ) → # (suc n) (λ x. S (c + x)) ≡ indicator (S c) + # n (λ x. S (suc c + x))
  #-from c n =
      let z : c + 0 ≡ c = omega arith in
      #-first n (λ x. S (c + x)) ∙ ap (λ (k : ℕ). indicator (S k) + # n (λ x. S (c + suc x))) z
      ∙ ap (λ (k : ℕ). indicator (S c) + k) (#-ext n _ _ (λ i _. (let q : c + suc i ≡ suc c + i = omega arith in ap S q)))

  picked_length : (c : ℕ) (ks : List ℕ) → length (picked S c ks) ≡ # (length ks) (λ x. S (c + x))
  unfolding picked # indicator
  picked_length c [] = refl
  picked_length c (k ∷ ks) =
      let i = picked_length (suc c) ks in
      split (S c) (λ b. length (cond b (k ∷ picked S (suc c) ks) (picked S (suc c) ks)) ≡ indicator b + # (length ks) (λ x. S (suc c + x))) (λ _. omega (arith, i)) (λ _. omega (arith, i)) ∙ sym (#-from c (length ks))

  pub spread_length : (c n : ℕ) (ks : List ℕ) → length (spread S c n ks) ≡ n
  unfolding spread
  spread_length c zero ks = refl
  spread_length c (suc n) ks =
      split (S c) (λ b. length (cond b (get_or ks 0 0 ∷ spread S (suc c) n (drop 1 ks)) (0 ∷ spread S (suc c) n ks)) ≡ suc n)
      (λ _. ap suc (spread_length (suc c) n (drop 1 ks))) (λ _. ap suc (spread_length (suc c) n ks))

  -- the next entry, and what is left of the numbers behind it
  pub spread_next : (c n : ℕ) (ks : List ℕ) → 0 < n → spread S c n ks ≡ cond (S c) (get_or ks 0 0) 0 ∷ spread S (c + 1) (n - 1) (drop (indicator (S c)) ks)
  unfolding spread indicator
  spread_next c zero ks l = absurd (omega arith)
  spread_next c (suc n) ks l =
      let q : suc n - 1 ≡ n = omega arith in
      let r : c + 1 ≡ suc c = omega arith in
      rw (q, r)
      (split (S c) (λ b. cond b (get_or ks 0 0 ∷ spread S (suc c) n (drop 1 ks)) (0 ∷ spread S (suc c) n ks) ≡ cond b (get_or ks 0 0) 0 ∷ spread S (suc c) n (drop (indicator b) ks)) (λ _. refl) (λ _. refl))

  -- what was spread is picked again
  picked_spread : (c n : ℕ) (ks : List ℕ) → length ks ≡ # n (λ x. S (c + x)) → picked S c (spread S c n ks) ≡ ks
  unfolding picked spread # indicator
  picked_spread c zero ks l = sym (nothing ks (omega arith))
  picked_spread c (suc n) ks l =
      let m = l ∙ #-from c n in
      split (S c) (λ b. S c ≡ b → picked S c (cond b (get_or ks 0 0 ∷ spread S (suc c) n (drop 1 ks)) (0 ∷ spread S (suc c) n ks)) ≡ ks)
      (λ _ e.
      let k : length ks ≡ 1 + # n (λ x. S (suc c + x)) = m ∙ ap (λ (b : Bool). indicator b + # n (λ x. S (suc c + x))) e in
      rw e (ap (λ (t : List ℕ). get_or ks 0 0 ∷ t) (picked_spread (suc c) n (drop 1 ks) (length-drop 1 ks ∙ omega arith)) ∙ sym (first_rest ks (omega arith))))
      (λ _ e.
      let k : length ks ≡ 0 + # n (λ x. S (suc c + x)) = m ∙ ap (λ (b : Bool). indicator b + # n (λ x. S (suc c + x))) e in
      rw e (picked_spread (suc c) n ks (omega arith))) refl

  pub picked_all : (Is : ℕ → Type 0) (c : ℕ) (ks : List ℕ) → All Is ks → All Is (picked S c ks)
  unfolding picked
  picked_all Is c [] v = tt
  picked_all Is c (k ∷ ks) v =
      let i = picked_all Is (suc c) ks v.1 in
      split (S c) (λ b. All Is (cond b (k ∷ picked S (suc c) ks) (picked S (suc c) ks))) (λ _. (v.0, i)) (λ _. i)

module _ (n w : ℕ) where
  count_from : # n (λ x. members w (0 + x)) ≡ parameter_count n w
  unfolding parameter_count
  count_from = #-ext n _ _ (λ i _. ap (members w) (zero-add i))

  -- a row has as many numbers as parameters
  pub row_picked_length : (ks : List ℕ) → n ≤ length ks → length (picked (members w) 0 (take n ks)) ≡ parameter_count n w
  row_picked_length ks l = picked_length (members w) 0 (take n ks) ∙ ap (λ (j : ℕ). # j (λ x. members w (0 + x))) (length-take-le n ks l) ∙ count_from

  pub row_picked_spread : (ks : List ℕ) → length ks ≡ parameter_count n w → picked (members w) 0 (spread (members w) 0 n ks) ≡ ks
  row_picked_spread ks l = picked_spread (members w) 0 n ks (l ∙ sym count_from)

-- the entries of a row, one column after another
module _ (S : Set) (row : List ℕ) where
  pub picked_next : (c : ℕ) → c < length row → picked S c (drop c row) ≡ entry_at S c (get_or row c 0) ++ picked S (c + 1) (drop (c + 1) row)
  unfolding picked entry_at
  picked_next c l = ap (picked S c) (drop-cons row c 0 l) ∙ by (S c) ∙ ap (λ (k : ℕ). entry_at S c (get_or row c 0) ++ picked S k (drop k row)) (sym (add-one c))
    where
      by : (b : Bool) → cond b (get_or row c 0 ∷ picked S (suc c) (drop (suc c) row)) (picked S (suc c) (drop (suc c) row)) ≡ cond b (get_or row c 0 ∷ []) [] ++ picked S (suc c) (drop (suc c) row)
      by true = refl
      by false = refl

  pub picked_done : (c : ℕ) → length row ≤ c → picked S c (drop c row) ≡ []
  unfolding picked
  picked_done c l = ap (picked S c) (drop_of_length-le row {i = c} l)

-- ---- rows of an area

pub numbers_length : (n : ℕ) (ws ks : List ℕ) → length (numbers_in n ws ks) ≡ length ws
unfolding numbers_in
numbers_length n [] ks = refl
numbers_length n (w ∷ ws) ks = ap suc (numbers_length n ws (drop n ks))

-- as many numbers as parameters
pub numbers_count : (n : ℕ) (ws ks : List ℕ) → length ws * n ≤ length ks → ((i : ℕ) → get_or ks i 0 < 65536)
    → All (λ x. (length x.1 ≡ parameter_count n x.0) × All (λ k. k < 65536) x.1) (zip ws (numbers_in n ws ks))
unfolding numbers_in zip zip_with
numbers_count n [] ks l h = tt
numbers_count n (w ∷ ws) ks l h =
    let m : suc (length ws) * n ≡ length ws * n + n = suc-mul (length ws) n in (
      (row_picked_length n w ks (omega arith), picked_all (members w) (λ k. k < 65536) 0 (take n ks) (small n ks h)),
      numbers_count n ws (drop n ks) (rw length-drop (omega arith)) (λ i. rw get_or-drop (h (n + i))),
    )
  where
    small : (n : ℕ) (ks : List ℕ) → ((i : ℕ) → get_or ks i 0 < 65536) → All (λ k. k < 65536) (take n ks)
    small zero ks h = tt
    small (suc n) [] h = tt
    small (suc n) (k ∷ ks) h = (h 0, small n ks (λ i. h (suc i)))

-- an area that was filled holds the numbers again
pub entries_length : (n : ℕ) (ws : List ℕ) (kss : List (List ℕ)) → length kss ≡ length ws → length (entries_for n ws kss) ≡ length ws * n
unfolding entries_for
entries_length n [] kss l = sym (zero-mul n)
entries_length n (w ∷ ws) [] l = absurd (omega arith)
entries_length n (w ∷ ws) (ks ∷ kss) l =
    let m : suc (length ws) * n ≡ length ws * n + n = suc-mul (length ws) n in
    let i = entries_length n ws kss (omega arith) in
    let j = spread_length (members w) 0 n ks in
    length-append (spread (members w) 0 n ks) (entries_for n ws kss) ∙ omega arith

pub numbers_again : (n : ℕ) (ws : List ℕ) (kss : List (List ℕ)) (t : List ℕ) → length kss ≡ length ws
    → All (λ x. (length x.1 ≡ parameter_count n x.0) × All (λ k. k < 65536) x.1) (zip ws kss) → numbers_in n ws (entries_for n ws kss ++ t) ≡ kss
unfolding numbers_in entries_for zip zip_with
numbers_again n [] [] t l v = refl
numbers_again n [] (ks ∷ kss) t l v = absurd (omega arith)
numbers_again n (w ∷ ws) [] t l v = absurd (omega arith)
numbers_again n (w ∷ ws) (ks ∷ kss) t l v =
    let row = spread (members w) 0 n ks in
    let rest = entries_for n ws kss ++ t in
    let all : (row ++ entries_for n ws kss) ++ t ≡ row ++ rest = append_assoc row (entries_for n ws kss) t in
    let len = spread_length (members w) 0 n ks in
    let first : take n ((row ++ entries_for n ws kss) ++ t) ≡ row = ap (take n) all ∙ take_at row rest n len in
    let others : drop n ((row ++ entries_for n ws kss) ++ t) ≡ rest = ap (drop n) all ∙ drop_at row rest n len in
    ap₂ (λ (x : List ℕ) (xs : List (List ℕ)). x ∷ xs) (ap (picked (members w) 0) first ∙ row_picked_spread n w ks v.0.0) (ap (numbers_in n ws) others ∙ numbers_again n ws kss t (omega arith) v.1)

-- The numbers of an accepted model's parameters: each names one place, no other entry of their area counts, and without them the model is the same. Assumes nothing.
use Prim.Native.Nat.{ℕ, zero, suc, ◌+◌, ◌-◌, ◌*◌, ◌≤◌, ◌<◌}
use Rattle.std.specs.Prelude.{◌≡◌, not, length, get_or, take, drop, eqb}
use Rattle.std.proofs.Math.Path.{refl, sym, ap, ap₂}
use Rattle.std.proofs.Common.{◌∙◌, ⊎_elim, zero-mul, mul-le-mul_right, length-take, length-drop, get_or-take, get_or-drop, take-take, eqb-true, eq-eqb}
use Rattle.std.proofs.Math.Bool.{true, cond}
use Rattle.std.proofs.lemmas.Bool.{false≢true}
use Rattle.std.proofs.Math.Option.{Option, none, some, some-ne-none}
use mathlib.Core.List.{List, [], ◌∷◌, ◌++◌, flatten}
use native.Mathlib.Omega.{arith}
use Rattle.std.proofs.Math.Nat.{suc-mul}
use Rattle.std.proofs.Math.Seq.{length-take-le}
use Rattle.counting.specs.Bools.{and_left, and_right, or_left, or_right, or_split, not_both}
use Rattle.counting.specs.Sets.{Set, ◌∈◌}
use Rattle.columns.specs.Columns.{members}
use Rattle.format.specs.Numbers.{stands_in, once, picked, numbers_in, numbers_of}
use Rattle.format.specs.NumberLaws.{split, stands_append, once_front}
use Rattle.format.specs.Refusals.{unless, not_mixed, area_test, numbers_room, number_test, model_tests, refusal, mixed_test, mixed_tests, mixed_refusal}
use Rattle.format.specs.RefusalLaws.{then_zero, zero_then}
use Rattle.format.specs.TestLaws.{area_reads, model_accepted, accepted_model, unnumbered_accepted}
use Rattle.columns.specs.Words.Bytes.{AreBytes}
use Rattle.listed_models.specs.ListedModel.{listed_model}
use Rattle.mixed_models.specs.Mixed.{mixed}
use Rattle.format.specs.File.Format.{FileModel, ValidModel, judge, decode, encode}
use Rattle.format.specs.File.FormatLaws.{decoded_valid, decode_encode, encoded_accepted}
use Rattle.layered.specs.FileModel.{file_model}
use Rattle.mixed.specs.MixedAnswers.{file_mixed}
use Rattle.promises.specs.CutLaws.{front_drop}
use Rattle.promises.specs.AnswerLaws.{SameNumbers, front_area}

-- ---- numbers that stand once

once_apart : (k : ℕ) (xs ys : List ℕ) → once (xs ++ ys) ≡ true → stands_in k xs ≡ true → stands_in k ys ≡ true → ⊥
unfolding once stands_in
once_apart k [] ys e l m = false≢true l
once_apart k (x ∷ xs) ys e l m =
    ⊎_elim
    (λ q. not_both (stands_in x (xs ++ ys)) (and_left (not (stands_in x (xs ++ ys))) (once (xs ++ ys)) e)
    (stands_append x xs ys ∙ or_right (stands_in x xs) (stands_in x ys) (ap (λ (j : ℕ). stands_in j ys) (sym (eqb-true k x q)) ∙ m)))
    (λ q. once_apart k xs ys (and_right (not (stands_in x (xs ++ ys))) (once (xs ++ ys)) e) q m)
    (or_split (eqb k x) (stands_in k xs) l)

once_back : (xs ys : List ℕ) → once (xs ++ ys) ≡ true → once ys ≡ true
unfolding once
once_back [] ys e = e
once_back (x ∷ xs) ys e = once_back xs ys (and_right (not (stands_in x (xs ++ ys))) (once (xs ++ ys)) e)

-- ---- a row

module _ (S : Set) where
  -- an entry at a column of S is picked
  picked_stands : (c : ℕ) (xs : List ℕ) (i : ℕ) → i < length xs → c + i ∈ S → stands_in (get_or xs i 0) (picked S c xs) ≡ true
  unfolding picked stands_in
  picked_stands c [] i l e = absurd (omega arith)
  picked_stands c (x ∷ xs) zero l e =
      let q : c + 0 ≡ c = omega arith in
      let own : S c ≡ true = ap S (sym q) ∙ e in
      rw own (or_left (eqb x x) _ (eq-eqb x x refl))
  picked_stands c (x ∷ xs) (suc i) l e =
      let q : c + suc i ≡ suc c + i = omega arith in
      let j = picked_stands (suc c) xs i (omega arith) (ap S (sym q) ∙ e) in
      split (S c) (λ b. stands_in (get_or xs i 0) (cond b (x ∷ picked S (suc c) xs) (picked S (suc c) xs)) ≡ true) (λ _. or_right (eqb (get_or xs i 0) x) _ j) (λ _. j)

  -- two of the same number are one
  picked_named : (c : ℕ) (xs : List ℕ) → once (picked S c xs) ≡ true → (i j : ℕ) → i < length xs → j < length xs → c + i ∈ S → c + j ∈ S → get_or xs i 0 ≡ get_or xs j 0 → i ≡ j
  unfolding picked once
  picked_named c [] o i j l m e f g = absurd (omega arith)
  picked_named c (x ∷ xs) o zero zero l m e f g = refl
  picked_named c (x ∷ xs) o zero (suc j) l m e f g =
      let q : c + 0 ≡ c = omega arith in
      let own : S c ≡ true = ap S (sym q) ∙ e in
      let r : c + suc j ≡ suc c + j = omega arith in
      let o' : once (x ∷ picked S (suc c) xs) ≡ true = rw own at o in
      absurd (not_both (stands_in x (picked S (suc c) xs)) (and_left (not (stands_in x (picked S (suc c) xs))) (once (picked S (suc c) xs)) o')
      (ap (λ (k : ℕ). stands_in k (picked S (suc c) xs)) g ∙ picked_stands (suc c) xs j (omega arith) (ap S (sym r) ∙ f)))
  picked_named c (x ∷ xs) o (suc i) zero l m e f g =
      let q : c + 0 ≡ c = omega arith in
      let own : S c ≡ true = ap S (sym q) ∙ f in
      let r : c + suc i ≡ suc c + i = omega arith in
      let o' : once (x ∷ picked S (suc c) xs) ≡ true = rw own at o in
      absurd (not_both (stands_in x (picked S (suc c) xs)) (and_left (not (stands_in x (picked S (suc c) xs))) (once (picked S (suc c) xs)) o')
      (ap (λ (k : ℕ). stands_in k (picked S (suc c) xs)) (sym g) ∙ picked_stands (suc c) xs i (omega arith) (ap S (sym r) ∙ e)))
  picked_named c (x ∷ xs) o (suc i) (suc j) l m e f g =
      let q : c + suc i ≡ suc c + i = omega arith in
      let r : c + suc j ≡ suc c + j = omega arith in
      let rest = split (S c) (λ b. once (cond b (x ∷ picked S (suc c) xs) (picked S (suc c) xs)) ≡ true → once (picked S (suc c) xs) ≡ true)
      (λ _ o. and_right (not (stands_in x (picked S (suc c) xs))) (once (picked S (suc c) xs)) o) (λ _ o. o) o in
      ap suc (picked_named (suc c) xs rest i j (omega arith) (omega arith) (ap S (sym q) ∙ e) (ap S (sym r) ∙ f) g)

  -- only entries at columns of S count
  picked_agree : (c : ℕ) (xs ys : List ℕ) → length xs ≡ length ys → ((i : ℕ) → i < length xs → c + i ∈ S → get_or xs i 0 ≡ get_or ys i 0) → picked S c xs ≡ picked S c ys
  unfolding picked
  picked_agree c [] [] l h = refl
  picked_agree c [] (y ∷ ys) l h = absurd (omega arith)
  picked_agree c (x ∷ xs) [] l h = absurd (omega arith)
  picked_agree c (x ∷ xs) (y ∷ ys) l h =
      let q : c + 0 ≡ c = omega arith in
      let i = picked_agree (suc c) xs ys (omega arith) (λ j m e. (let r : suc c + j ≡ c + suc j = omega arith in h (suc j) (omega arith) (ap S (sym r) ∙ e))) in
      split (S c) (λ b. S c ≡ b → cond b (x ∷ picked S (suc c) xs) (picked S (suc c) xs) ≡ cond b (y ∷ picked S (suc c) ys) (picked S (suc c) ys))
      (λ _ e. ap₂ (λ (z : ℕ) (zs : List ℕ). z ∷ zs) (h 0 (omega arith) (ap S q ∙ e)) i) (λ _ _. i) refl

-- ---- rows

module _ (n : ℕ) where
  -- entry x of row r, and of a row behind the first
  in_front : (ks : List ℕ) (x : ℕ) → x < n → get_or (take n ks) x 0 ≡ get_or ks (0 * n + x) 0
  in_front ks x l = let q : 0 * n + x ≡ x = omega (arith, zero-mul n) in get_or-take n ks x 0 l ∙ ap (λ (i : ℕ). get_or ks i 0) (sym q)

  behind : (ks : List ℕ) (r x : ℕ) → get_or (drop n ks) (r * n + x) 0 ≡ get_or ks (suc r * n + x) 0
  behind ks r x = let q : n + (r * n + x) ≡ suc r * n + x = omega (arith, suc-mul r n) in get_or-drop n ks (r * n + x) 0 ∙ ap (λ (i : ℕ). get_or ks i 0) q

  room_next : (us ks : List ℕ) → suc (length us) * n ≤ length ks → (n ≤ length ks) × (length us * n ≤ length (drop n ks))
  room_next us ks l = let m = suc-mul (length us) n in (omega arith, omega (arith, length-drop n ks))

  row_stands : (us ks : List ℕ) → length us * n ≤ length ks → (r x : ℕ) → r < length us → x < n → x ∈ members (get_or us r 0)
      → stands_in (get_or ks (r * n + x) 0) (flatten (numbers_in n us ks)) ≡ true
  unfolding numbers_in flatten
  row_stands [] ks l r x h m e = absurd (omega arith)
  row_stands (u ∷ us) ks l zero x h m e =
      let own = picked (members u) 0 (take n ks) in
      let len = length-take-le n ks (room_next us ks l).0 in
      let q : 0 + x ≡ x = omega arith in
      ap (λ (k : ℕ). stands_in k (own ++ flatten (numbers_in n us (drop n ks)))) (sym (in_front ks x m)) ∙ stands_append (get_or (take n ks) x 0) own _
      ∙ or_left (stands_in (get_or (take n ks) x 0) own) _ (picked_stands (members u) 0 (take n ks) x (omega arith) (ap (members u) q ∙ e))
  row_stands (u ∷ us) ks l (suc r) x h m e =
      let own = picked (members u) 0 (take n ks) in
      let i = row_stands us (drop n ks) (room_next us ks l).1 r x (omega arith) m e in
      ap (λ (k : ℕ). stands_in k (own ++ flatten (numbers_in n us (drop n ks)))) (sym (behind ks r x)) ∙ stands_append (get_or (drop n ks) (r * n + x) 0) own _
      ∙ or_right (stands_in (get_or (drop n ks) (r * n + x) 0) own) _ i

  rows_named : (us ks : List ℕ) → length us * n ≤ length ks → once (flatten (numbers_in n us ks)) ≡ true
      → (r x r' x' : ℕ) → r < length us → x < n → r' < length us → x' < n → x ∈ members (get_or us r 0) → x' ∈ members (get_or us r' 0)
      → get_or ks (r * n + x) 0 ≡ get_or ks (r' * n + x') 0 → (r ≡ r') × (x ≡ x')
  unfolding numbers_in flatten
  rows_named [] ks l o r x r' x' h m h' m' e e' g = absurd (omega arith)
  rows_named (u ∷ us) ks l o zero x zero x' h m h' m' e e' g =
      let own = picked (members u) 0 (take n ks) in
      let len = length-take-le n ks (room_next us ks l).0 in
      let q : 0 + x ≡ x = omega arith in
      let q' : 0 + x' ≡ x' = omega arith in
      (refl, picked_named (members u) 0 (take n ks) (once_front own _ o) x x' (omega arith) (omega arith) (ap (members u) q ∙ e) (ap (members u) q' ∙ e') (in_front ks x m ∙ g ∙ sym (in_front ks x' m')))
  rows_named (u ∷ us) ks l o zero x (suc r') x' h m h' m' e e' g =
      let own = picked (members u) 0 (take n ks) in
      let len = length-take-le n ks (room_next us ks l).0 in
      let q : 0 + x ≡ x = omega arith in
      absurd (once_apart (get_or (take n ks) x 0) own _ o (picked_stands (members u) 0 (take n ks) x (omega arith) (ap (members u) q ∙ e))
      (ap (λ (k : ℕ). stands_in k (flatten (numbers_in n us (drop n ks)))) (in_front ks x m ∙ g ∙ sym (behind ks r' x')) ∙ row_stands us (drop n ks) (room_next us ks l).1 r' x' (omega arith) m' e'))
  rows_named (u ∷ us) ks l o (suc r) x zero x' h m h' m' e e' g =
      let own = picked (members u) 0 (take n ks) in
      let len = length-take-le n ks (room_next us ks l).0 in
      let q : 0 + x' ≡ x' = omega arith in
      absurd (once_apart (get_or (take n ks) x' 0) own _ o (picked_stands (members u) 0 (take n ks) x' (omega arith) (ap (members u) q ∙ e'))
      (ap (λ (k : ℕ). stands_in k (flatten (numbers_in n us (drop n ks)))) (in_front ks x' m' ∙ sym g ∙ sym (behind ks r x)) ∙ row_stands us (drop n ks) (room_next us ks l).1 r x (omega arith) m e))
  rows_named (u ∷ us) ks l o (suc r) x (suc r') x' h m h' m' e e' g =
      let i = rows_named us (drop n ks) (room_next us ks l).1 (once_back (picked (members u) 0 (take n ks)) _ o) r x r' x' (omega arith) m (omega arith) m' e e' (behind ks r x ∙ g ∙ sym (behind ks r' x')) in
      (ap suc i.0, i.1)

  rows_agree : (us ks js : List ℕ) → length us * n ≤ length ks → length us * n ≤ length js
      → ((r x : ℕ) → r < length us → x < n → x ∈ members (get_or us r 0) → get_or ks (r * n + x) 0 ≡ get_or js (r * n + x) 0) → numbers_in n us ks ≡ numbers_in n us js
  unfolding numbers_in
  rows_agree [] ks js l m h = refl
  rows_agree (u ∷ us) ks js l m h =
      let lk = room_next us ks l in
      let lj = room_next us js m in
      let same = length-take-le n ks lk.0 ∙ sym (length-take-le n js lj.0) in
      ap₂ (λ (z : List ℕ) (zs : List (List ℕ)). z ∷ zs)
      (picked_agree (members u) 0 (take n ks) (take n js) same
      (λ i g e. (let x : i < n = omega (arith, length-take-le n ks lk.0) in let q : 0 + i ≡ i = omega arith in in_front ks i x ∙ h 0 i (omega arith) x (ap (members u) (sym q) ∙ e) ∙ sym (in_front js i x))))
      (rows_agree us (drop n ks) (drop n js) lk.1 lj.1 (λ r x g y e. behind ks r x ∙ h (suc r) x (omega arith) y e ∙ sym (behind js r x)))

  -- what stands behind the rows does not count
  rows_front : (us ks : List ℕ) (k : ℕ) → length us * n ≤ k → numbers_in n us ks ≡ numbers_in n us (take k ks)
  unfolding numbers_in
  rows_front [] ks k l = refl
  rows_front (u ∷ us) ks k l =
      let m = suc-mul (length us) n in
      ap₂ (λ (z : List ℕ) (zs : List (List ℕ)). z ∷ zs) (ap (picked (members u) 0) (sym (take-take n k ks (omega arith))))
      (rows_front us (drop n ks) (k - n) (omega arith) ∙ ap (numbers_in n us) (sym (front_drop n k ks (omega arith))))

-- ---- areas with the same numbers

rows_same_numbers : (n b : ℕ) (ws ks js : List ℕ) → area_test (b * n) (length ks) ≡ area_test (b * n) (length js) → numbers_in n (take b ws) ks ≡ numbers_in n (take b ws) js → SameNumbers n b ws (some ks) (some js)
unfolding numbers_room number_test numbers_of
rows_same_numbers n b ws ks js r e = record {
  room_same = r;
  test_same = ap (λ (x : List (List ℕ)). once (flatten x)) e;
  rows_same = of (take b ws) e;
}
  where
    of : (us : List ℕ) → numbers_in n us ks ≡ numbers_in n us js → numbers_of n us (some ks) ≡ numbers_of n us (some js)
    of [] e = refl
    of (u ∷ us) e = ap some e

unfoldable pub numbers_front : ℕ → Option (List ℕ) → Option (List ℕ)
numbers_front k none = none
numbers_front k (some ks) = some (take k ks)

pub front_same : (n b : ℕ) (ws : List ℕ) (ns : Option (List ℕ)) → SameNumbers n b ws ns (numbers_front (b * n) ns)
unfolding numbers_front
front_same n b ws none = record { room_same = refl; test_same = refl; rows_same = refl }
front_same n b ws (some ks) =
    let k = b * n in
    let few : length (take b ws) * n ≤ b * n = mul-le-mul_right n (let l = length-take b ws in omega arith) in
    rows_same_numbers n b ws ks (take k ks) (front_area k ks (take k ks) (sym (take-take k k ks (omega arith)))) (rows_front n (take b ws) ks k few)

pub picked_same : (n b : ℕ) (ws ks js : List ℕ) → b ≤ length ws → b * n ≤ length ks → b * n ≤ length js
    → ((r x : ℕ) → r < b → x < n → x ∈ members (get_or ws r 0) → get_or ks (r * n + x) 0 ≡ get_or js (r * n + x) 0) → SameNumbers n b ws (some ks) (some js)
picked_same n b ws ks js l lk lj h =
    let len = length-take-le b ws l in
    rows_same_numbers n b ws ks js ((area_reads _ _).1 lk ∙ sym ((area_reads _ _).1 lj))
    (rows_agree n (take b ws) ks js (rw len lk) (rw len lj) (λ r x g y e. h r x (omega arith) y (ap (λ (w : ℕ). members w x) (sym (get_or-take b ws r 0 (omega arith))) ∙ e)))

-- ---- a model that is accepted

pub named : (p n a b : ℕ) (cs ws ks : List ℕ) → refusal p n a b cs ws (some ks) ≡ 0 → (r x r' x' : ℕ) → r < b → x < n → r' < b → x' < n
    → x ∈ members (get_or ws r 0) → x' ∈ members (get_or ws r' 0) → get_or ks (r * n + x) 0 ≡ get_or ks (r' * n + x') 0 → (r ≡ r') × (x ≡ x')
unfolding numbers_room number_test
named p n a b cs ws ks e r x r' x' h m h' m' f f' g =
    let v = model_accepted p n a b cs ws (some ks) e in
    let len = length-take-le b ws v.parameters_lent in
    rows_named n (take b ws) ks (rw len ((area_reads _ _).0 v.numbers_lent)) v.numbers_once r x r' x' (omega arith) m (omega arith) m'
    (ap (λ (w : ℕ). members w x) (get_or-take b ws r 0 h) ∙ f) (ap (λ (w : ℕ). members w x') (get_or-take b ws r' 0 h') ∙ f') g

pub mixed_unnumbered : (p n a b : ℕ) (cs ws ks : List ℕ) → mixed_refusal p n a b cs ws (some ks) ≡ 0 → mixed_refusal p n a b cs ws none ≡ 0
unfolding mixed_refusal mixed_tests refusal
mixed_unnumbered p n a b cs ws ks e =
    let z = then_zero (model_tests p n a b cs ws (some ks)) (unless (mixed_test n a b) not_mixed) e in
    zero_then (model_tests p n a b cs ws none) (unless (mixed_test n a b) not_mixed) (accepted_model p n a b cs ws none (unnumbered_accepted (model_accepted p n a b cs ws (some ks) z.0))) z.1

-- ---- files

-- the model without its numbers
unfoldable pub without_numbers : FileModel → FileModel
without_numbers m = record { p = m.p; n = m.n; a = m.a; b = m.b; constants = m.constants; parameters = m.parameters; numbers = none }

pub without_valid : (m : FileModel) → ValidModel m → ValidModel (without_numbers m)
unfolding without_numbers
without_valid m v = record {
  prime = v.prime;
  p_most = v.p_most;
  n_least = v.n_least;
  n_most = v.n_most;
  a_most = v.a_most;
  b_most = v.b_most;
  constant_rows = v.constant_rows;
  constants_below = v.constants_below;
  parameter_rows = v.parameter_rows;
  parameters_within = v.parameters_within;
  numbers_are = λ kss e. absurd (some-ne-none kss (sym e));
}

pub file_unnumbered : (s : List ℕ) → AreBytes s → judge s ≡ 0 → let s' = encode (without_numbers (decode s)) in (judge s' ≡ 0) × (file_model s' ≡ file_model s) × (file_mixed s' ≡ file_mixed s)
unfolding without_numbers
file_unnumbered s bytes e =
    let m = without_numbers (decode s) in
    let v = without_valid (decode s) (decoded_valid s bytes e) in
    let q = decode_encode m v in (
      encoded_accepted m v,
      ap (λ (x : FileModel). listed_model x.p x.n x.a x.b (flatten x.constants) x.parameters) q,
      ap (λ (x : FileModel). mixed x.p x.a x.n (flatten x.constants) x.parameters) q,
    )

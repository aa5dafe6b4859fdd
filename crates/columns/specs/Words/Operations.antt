-- Each of the machine's operations on words, as the operation on sets of columns that it is. Assumes nothing.
use Rattle.std.specs.Prelude.{◌≡◌, refl, Bool, true, false, not, ◌&&◌, ◌||◌, cond, ◌↔◌, ℕ, zero, suc, ◌+◌, ◌-◌, ◌*◌, ◌/◌, ◌%◌, ◌^◌, ◌≤◌, ◌<◌, min, max, eqb, leb, ltb}
use Rattle.std.proofs.Common.{sym, ap, ap₂, ◌∙◌, true≢false, ⊎_elim, mod-lt, mod-eq_of_lt, div-lt_iff_lt-mul, pow-suc, mul-div_cancel, mul_assoc, one-add, arith, lit<, pow_pos, pow_mono, pow-add, shr-shr, le-leb, eq-eqb, ne_eqb, eqb-true, lt-ltb, le-ltb, ltb-true}
use Rattle.std.proofs.Math.Path.{fun_ext}
use Rattle.std.proofs.Math.Nat.{mod-le, div-eq_of_lt, mul-mod_left, mul-add-mod_self_right}
use Rattle.std.proofs.Math.Decide.{ℕ_discrete, dec_lt}
use Rattle.std.proofs.Math.Arith.{lt-one}
use Rattle.std.proofs.lemmas.Nat.{mod-pow-add, ones_cat}
use Rattle.std.specs.Int.Bits.{bit_and, bit_or}
use Rattle.std.specs.Int.Count.{ones, count_trailing_zeros, under}
use Rattle.std.proofs.lemmas.Bool.{lt-leb}
use Rattle.counting.specs.Bools.{not_true, iff_eq, implies, implied}
use Rattle.counting.specs.Sets.{Set, ◌∈◌, ◌∩◌, ◌∪◌, ∁, indicator, #}
use Rattle.counting.specs.Counts.{all_iff, #-none, #-⊖}
use Rattle.columns.specs.Columns.{width, bit, members, none, upto_in, inserted_in, removed, moved_up_in, moved_down, least, word_of, within_in, within}
use Rattle.columns.specs.Words.Bits.{bit_lt, two_cases, bit_suc, bit_zero, bit_and_lem, bit_or_lem, bit_not, bit_pow_same, bit_pow_other, bit_of_zero, bit_mod, bits_ext}

-- ---- members by their bits

pub members_zero : members 0 ≡ none
unfolding members
members_zero = fun_ext (λ x. ap (λ (b : ℕ). eqb b 1) (bit_of_zero x))

-- a number below 2 ^ k has no member from k on
pub members_beyond : (k w x : ℕ) → w < 2 ^ k → k ≤ x → members w x ≡ false
unfolding members
members_beyond k w x l h =
    let m : 2 ^ k ≤ 2 ^ x = pow_mono {i = k} {j = x} h in
    ap (λ (q : ℕ). eqb (q % 2) 1) (div-eq_of_lt {n = w} {m = 2 ^ x} (omega arith))

pub members_below : (w x : ℕ) → w < 2 ^ width → x ∈ members w → x < width
members_below w x l e = elim (dec_lt x width) [
  | yes h ↦ h
  | no nh ↦ absurd (true≢false (sym e ∙ members_beyond width w x l (omega arith)))
]

members_pow : (j x : ℕ) → members (2 ^ j) x ≡ eqb x j
unfolding members
members_pow j x = elim (ℕ_discrete x j) [
  | yes e ↦ ap (λ (b : ℕ). eqb b 1) (ap (bit (2 ^ j)) e ∙ bit_pow_same j) ∙ sym (eq-eqb x j e)
  | no ne ↦ ap (λ (b : ℕ). eqb b 1) (bit_pow_other j x ne) ∙ sym (ne_eqb x j ne)
]

-- the low k bits have the members below k
pub members_mod : (k w x : ℕ) → x < k → members (w % 2 ^ k) x ≡ members w x
unfolding members
members_mod k w x l = ap (λ (b : ℕ). eqb b 1) (bit_mod k w x l)

pub members_half : (w x : ℕ) → members w (suc x) ≡ members (w / 2) x
unfolding members
members_half w x = ap (λ (b : ℕ). eqb b 1) (bit_suc w x)

-- a multiple of 2 ^ m has no member below m
low_none : (m w x : ℕ) → x < m → members (w * 2 ^ m) x ≡ false
unfolding members
low_none zero w x l = absurd (omega arith)
low_none (suc m) w zero l = at_zero
  where
    twice : w * 2 ^ suc m ≡ w * 2 ^ m * 2
    twice = ap (λ (k : ℕ). w * k) (pow-suc 2 m) ∙ sym (mul_assoc w (2 ^ m) 2)

    at_zero : members (w * 2 ^ suc m) 0 ≡ false
    at_zero = ap (λ (b : ℕ). eqb b 1) (bit_zero (w * 2 ^ suc m) ∙ ap (λ (k : ℕ). k % 2) twice ∙ mul-mod_left (w * 2 ^ m) 2)
low_none (suc m) w (suc x) l =
    members_half (w * 2 ^ suc m) x
    ∙ ap (λ (v : ℕ). members v x) (ap (λ (k : ℕ). k / 2) (ap (λ (k : ℕ). w * k) (pow-suc 2 m) ∙ sym (mul_assoc w (2 ^ m) 2)) ∙ mul-div_cancel (w * 2 ^ m) (lit< tt))
    ∙ low_none m w x (omega arith)

-- ---- the set operations

one_of : (d e : ℕ) → d < 2 → e < 2 → eqb (max d e) 1 ≡ (eqb d 1 || eqb e 1)
one_of zero zero h l = refl
one_of zero (suc zero) h l = refl
one_of (suc zero) zero h l = refl
one_of (suc zero) (suc zero) h l = refl
one_of zero (suc (suc e)) h l = absurd (omega arith)
one_of (suc zero) (suc (suc e)) h l = absurd (omega arith)
one_of (suc (suc d)) e h l = absurd (omega arith)

both_ones : (d e : ℕ) → d < 2 → e < 2 → eqb (min d e) 1 ≡ (eqb d 1 && eqb e 1)
both_ones zero zero h l = refl
both_ones zero (suc zero) h l = refl
both_ones (suc zero) zero h l = refl
both_ones (suc zero) (suc zero) h l = refl
both_ones zero (suc (suc e)) h l = absurd (omega arith)
both_ones (suc zero) (suc (suc e)) h l = absurd (omega arith)
both_ones (suc (suc d)) e h l = absurd (omega arith)

one_turned : (e : ℕ) → e < 2 → eqb (1 - e) 1 ≡ not (eqb e 1)
one_turned zero l = refl
one_turned (suc zero) l = refl
one_turned (suc (suc e)) l = absurd (omega arith)

pub members_or : (v w : ℕ) → members (bit_or v w) ≡ members v ∪ members w
unfolding members
members_or v w = fun_ext (λ x. ap (λ (b : ℕ). eqb b 1) (bit_or_lem v w x) ∙ one_of (bit v x) (bit w x) (bit_lt v x) (bit_lt w x))

pub members_and : (v w : ℕ) → members (bit_and v w) ≡ members v ∩ members w
unfolding members
members_and v w = fun_ext (λ x. ap (λ (b : ℕ). eqb b 1) (bit_and_lem v w x) ∙ both_ones (bit v x) (bit w x) (bit_lt v x) (bit_lt w x))

members_not : (k w x : ℕ) → w < 2 ^ k → x < k → members (2 ^ k - 1 - w) x ≡ not (members w x)
unfolding members
members_not k w x h l = ap (λ (b : ℕ). eqb b 1) (bit_not k w x h l) ∙ one_turned (bit w x) (bit_lt w x)

pub members_less : (k v w : ℕ) → v < 2 ^ k → w < 2 ^ k → members (bit_and v (2 ^ k - 1 - w)) ≡ members v ∩ ∁ (members w)
members_less k v w hv hw = members_and v (2 ^ k - 1 - w) ∙ fun_ext (λ x. elim (dec_lt x k) [
  | yes l ↦ ap (λ b. members v x && b) (members_not k w x hw l)
  | no nl ↦ let none_here : members v x ≡ false = members_beyond k v x hv (omega arith) in rw none_here refl
])

pub and_none : (b : Bool) → false ≡ (b && false)
and_none true = refl
and_none false = refl

pub and_true : (b : Bool) → b ≡ (b && true)
and_true true = refl
and_true false = refl

pub members_with : (k w j : ℕ) → j < k → members (bit_or w (2 ^ j)) ≡ inserted_in k (members w) j
unfolding inserted_in
members_with k w j l = members_or w (2 ^ j) ∙ fun_ext (λ x. ap (λ b. members w x || b) (members_pow j x ∙ with_room x))
  where
    with_room : (x : ℕ) → eqb x j ≡ (eqb x j && ltb j k)
    with_room x = rw (lt-ltb j k l) (and_true (eqb x j))

pub inserted_beyond : (k : ℕ) (S : Set) (j : ℕ) → k ≤ j → S ≡ inserted_in k S j
unfolding inserted_in
inserted_beyond k S j h = fun_ext (λ x. rw (le-ltb j k h) (or_none (S x) (eqb x j)))
  where
    or_none : (b d : Bool) → b ≡ (b || (d && false))
    or_none true d = refl
    or_none false true = refl
    or_none false false = refl

pub members_without : (k w j : ℕ) → w < 2 ^ k → j < k → members (bit_and w (2 ^ k - 1 - 2 ^ j)) ≡ removed (members w) j
unfolding removed
members_without k w j hw l =
    members_less k w (2 ^ j) hw (pow_below j l)
    ∙ fun_ext (λ x. ap (λ b. members w x && not b) (members_pow j x))
  where
    pow_below : (j : ℕ) → j < k → 2 ^ j < 2 ^ k
    pow_below j l = let m : 2 ^ suc j ≤ 2 ^ k = pow_mono {i = suc j} {j = k} l in
        omega (arith, pow_pos j, ap (λ (k : ℕ). 2 ^ k) (one-add j), pow-add 2 1 j)

pub removed_beyond : (k w j : ℕ) → w < 2 ^ k → k ≤ j → members w ≡ removed (members w) j
unfolding removed
removed_beyond k w j hw h = fun_ext (λ x. elim (ℕ_discrete x j) [
  | yes e ↦ ap (members w) e ∙ members_beyond k w j hw h ∙ sym (ap (λ b. b && not (eqb x j)) (ap (members w) e ∙ members_beyond k w j hw h))
  | no ne ↦ rw (ne_eqb x j ne) (and_true (members w x))
])

-- ---- all columns below n

pub members_upto : (k n : ℕ) → n ≤ k → members (2 ^ n - 1) ≡ upto_in k n
unfolding members upto_in
members_upto k n h = fun_ext (λ x. elim (dec_lt x n) [
  | yes l ↦
      ap (λ (m : ℕ). eqb (bit m x) 1) (sym (minus_zero (2 ^ n - 1))) ∙ ap (λ (b : ℕ). eqb b 1) (bit_not n 0 x (pow_pos n) l ∙ ap (λ (b : ℕ). 1 - b) (bit_of_zero x))
      ∙ sym (ap₂ ◌&&◌ (lt-ltb x n l) (lt-ltb x k (omega arith)))
  | no nl ↦ members_beyond n (2 ^ n - 1) x (omega (arith, pow_pos n)) (omega arith) ∙ sym (ap (λ b. b && ltb x k) (le-ltb x n (omega arith)))
])
  where
    minus_zero : (m : ℕ) → m - 0 ≡ m
    minus_zero m = omega arith

pub upto_wide : (k n : ℕ) → k ≤ n → upto_in k k ≡ upto_in k n
unfolding upto_in
upto_wide k n h = fun_ext (λ x. elim (dec_lt x k) [
  | yes l ↦ ap₂ ◌&&◌ (lt-ltb x k l ∙ sym (lt-ltb x n (omega arith))) refl
  | no nl ↦ rw (le-ltb x k (omega arith)) (and_none (ltb x n))
])

-- ---- columns moved up and down

pub members_down : (w m : ℕ) → members (w / 2 ^ m) ≡ moved_down (members w) m
unfolding members moved_down
members_down w m = fun_ext (λ x. ap (λ (q : ℕ). eqb (q % 2) 1) (shr-shr w m x))

pub none_down : (k w m : ℕ) → w < 2 ^ k → k ≤ m → none ≡ moved_down (members w) m
unfolding moved_down
none_down k w m h l = fun_ext (λ x. sym (members_beyond k w (m + x) h (omega arith)))

pub members_up : (k w m : ℕ) → members (w * 2 ^ m % 2 ^ k) ≡ moved_up_in k (members w) m
unfolding moved_up_in moved_down
members_up k w m = fun_ext (λ x. elim (dec_lt x k) [
  | no nl ↦ members_beyond k (w * 2 ^ m % 2 ^ k) x (mod-lt (w * 2 ^ m) (pow_pos k)) (omega arith) ∙ rw (le-ltb x k (omega arith)) (and_none (leb m x && members w (x - m)))
  | yes l ↦ members_mod k (w * 2 ^ m) x l ∙ rw (lt-ltb x k l) (shifted x ∙ and_true (leb m x && members w (x - m)))
])
  where
    shifted : (x : ℕ) → members (w * 2 ^ m) x ≡ (leb m x && members w (x - m))
    shifted x = elim (dec_lt x m) [
      | yes l ↦ low_none m w x l ∙ sym (ap (λ b. b && members w (x - m)) (lt-leb m x l))
      | no nl ↦
          let at : m + (x - m) ≡ x = omega arith in
          ap (members (w * 2 ^ m)) (sym at) ∙ sym (ap (λ (S : Set). S (x - m)) (members_down (w * 2 ^ m) m)) ∙ ap (λ (v : ℕ). members v (x - m)) (mul-div_cancel w (pow_pos m))
          ∙ sym (ap (λ b. b && members w (x - m)) (le-leb m x (omega arith)))
    ]

pub none_up : (k : ℕ) (S : Set) (m : ℕ) → k ≤ m → none ≡ moved_up_in k S m
unfolding moved_up_in
none_up k S m h = fun_ext (λ x. elim (dec_lt x m) [
  | yes l ↦ ap (λ b. b && S (x - m) && ltb x k) (sym (lt-leb m x l))
  | no nl ↦ rw (le-ltb x k (omega arith)) (and_none (leb m x && S (x - m)))
])

-- ---- the least column

pub least_zeros : (k w : ℕ) → count_trailing_zeros k w ≡ least k (members w)
unfolding count_trailing_zeros least members
least_zeros zero w = refl
least_zeros (suc k) w =
    ⊎_elim
    (λ (e : w % 2 ≡ 0). at_low 0 e ∙ ap suc (least_zeros k (w / 2) ∙ ap (least k) (fun_ext (λ x. sym (members_half w x)))) ∙ sym (ap (λ b. cond b 0 (suc (least k (λ x. members w (suc x))))) (low_bit e)))
    (λ (e : w % 2 ≡ 1). at_low 1 e ∙ sym (ap (λ b. cond b 0 (suc (least k (λ x. members w (suc x))))) (low_bit e)))
    (two_cases (w % 2) (mod-lt w (lit< tt)))
  where
    at_low : (d : ℕ) → w % 2 ≡ d → under (w % 2) (count_trailing_zeros k (w / 2)) ≡ under d (count_trailing_zeros k (w / 2))
    at_low d e = ap (λ (b : ℕ). under b (count_trailing_zeros k (w / 2))) e

    low_bit : {d : ℕ} → w % 2 ≡ d → members w 0 ≡ eqb d 1
    low_bit e = ap (λ (b : ℕ). eqb b 1) (bit_zero w ∙ e)

pub least_le : (k : ℕ) (S : Set) → least k S ≤ k
unfolding least
least_le zero S = omega arith
least_le (suc k) S = elim (S 0) as (λ b. cond b 0 (suc (least k (λ x. S (suc x)))) ≤ suc k) [
  | true ↦ omega arith
  | false ↦ omega (arith, least_le k (λ x. S (suc x)))
]

-- it is a member, and there is none below it
pub least_in : (k : ℕ) (S : Set) → least k S < k → least k S ∈ S
unfolding least
least_in zero S l = absurd (omega arith)
least_in (suc k) S l = go (S 0) refl (λ h. least_in k (λ x. S (suc x)) h)
  where
    go : (b : Bool) → S 0 ≡ b → (least k (λ x. S (suc x)) < k → S (suc (least k (λ x. S (suc x)))) ≡ true) → S (least (suc k) S) ≡ true
    go true e later = ap (λ b. S (cond b 0 (suc (least k (λ x. S (suc x)))))) e ∙ e
    go false e later =
        let at : least (suc k) S ≡ suc (least k (λ x. S (suc x))) = ap (λ b. cond b 0 (suc (least k (λ x. S (suc x))))) e in
        ap S at ∙ later (omega arith)

pub least_first : (k : ℕ) (S : Set) (x : ℕ) → x < k → x ∈ S → least k S ≤ x
unfolding least
least_first zero S x l m = absurd (omega arith)
least_first (suc k) S zero l m = rw m (omega arith)
least_first (suc k) S (suc x) l m = elim (S 0) as (λ b. cond b 0 (suc (least k (λ y. S (suc y)))) ≤ suc x) [
  | true ↦ omega arith
  | false ↦ omega (arith, least_first k (λ y. S (suc y)) x (omega arith) m)
]

-- ---- the least column taken out

first_bit : (w d : ℕ) → w % 2 ≡ d → members w 0 ≡ eqb d 1
unfolding members
first_bit w d e = ap (λ (b : ℕ). eqb b 1) (bit_zero w ∙ e)

and_same : (b : Bool) → (b && b) ≡ (b && true)
and_same true = refl
and_same false = refl

both_next : (y m : ℕ) → eqb (suc y) (suc m) ≡ eqb y m
both_next y m = iff_eq (eqb (suc y) (suc m)) (eqb y m)
    (λ e. eq-eqb y m (omega (arith, eqb-true (suc y) (suc m) e)))
    (λ e. eq-eqb (suc y) (suc m) (omega (arith, eqb-true y m e)))

-- 1 less has the same columns above the least, and not it
one_less : (k w : ℕ) → w < 2 ^ k → (x : ℕ) → (members w x && members (w - 1) x) ≡ (members w x && not (eqb x (least k (members w))))
unfolding least
one_less zero w h x = let nowhere : members w x ≡ false = members_beyond 0 w x h (omega arith) in rw nowhere refl
one_less (suc k) w h x = ⊎_elim (even x (one_less k (w / 2) (omega (arith, h, pow-suc 2 k)))) (odd x) (two_cases (w % 2) (mod-lt w (lit< tt)))
  where
    odd : (x : ℕ) → w % 2 ≡ 1 → (members w x && members (w - 1) x) ≡ (members w x && not (eqb x (least (suc k) (members w))))
    odd zero e =
        let here : members w 0 ≡ true = first_bit w 1 e in
        let gone : members (w - 1) 0 ≡ false = first_bit (w - 1) 0 (omega (arith, e)) in
        rw (here, gone) refl
    odd (suc y) e =
        let here : members w 0 ≡ true = first_bit w 1 e in
        let half : (w - 1) / 2 ≡ w / 2 = omega (arith, e) in
        let same : members (w - 1) (suc y) ≡ members w (suc y) = members_half (w - 1) y ∙ ap (λ (v : ℕ). members v y) half ∙ sym (members_half w y) in
        let first : least (suc k) (members w) ≡ 0 = ap (λ b. cond b 0 (suc (least k (λ x. members w (suc x))))) here in
        ap (λ b. members w (suc y) && b) same ∙ and_same (members w (suc y))
        ∙ sym (ap (λ b. members w (suc y) && not b) (ap (eqb (suc y)) first ∙ ne_eqb (suc y) 0 (λ d. omega arith)))

    even : (x : ℕ) → ((y : ℕ) → (members (w / 2) y && members (w / 2 - 1) y) ≡ (members (w / 2) y && not (eqb y (least k (members (w / 2)))))) → w % 2 ≡ 0
        → (members w x && members (w - 1) x) ≡ (members w x && not (eqb x (least (suc k) (members w))))
    even zero half_so e = let gone : members w 0 ≡ false = first_bit w 0 e in rw gone refl
    even (suc y) half_so e =
        let gone : members w 0 ≡ false = first_bit w 0 e in
        let half : (w - 1) / 2 ≡ w / 2 - 1 = omega (arith, e) in
        let less : members (w - 1) (suc y) ≡ members (w / 2 - 1) y = members_half (w - 1) y ∙ ap (λ (v : ℕ). members v y) half in
        let later : least k (λ x. members w (suc x)) ≡ least k (members (w / 2)) = ap (least k) (fun_ext (λ x. members_half w x)) in
        let first : least (suc k) (members w) ≡ suc (least k (members (w / 2))) = ap (λ b. cond b 0 (suc (least k (λ x. members w (suc x))))) gone ∙ ap suc later in
        ap₂ ◌&&◌ (members_half w y) less
        ∙ half_so y
        ∙ sym (ap₂ (λ b d. b && not d) (members_half w y) (ap (eqb (suc y)) first ∙ both_next y (least k (members (w / 2)))))

-- so for the machine's subtraction, which goes round from 0
pub members_rest : (k w : ℕ) → w < 2 ^ k → members (bit_and w ((w + (2 ^ k - 1)) % 2 ^ k)) ≡ removed (members w) (least k (members w))
unfolding removed
members_rest k zero h = members_and 0 ((0 + (2 ^ k - 1)) % 2 ^ k) ∙ fun_ext (λ x. let nowhere : members 0 x ≡ false = ap (λ (S : Set). S x) members_zero in rw nowhere refl)
members_rest k (suc w) h =
    let round : suc w + (2 ^ k - 1) ≡ 1 * 2 ^ k + w = omega (arith, pow_pos k) in
    let back : (suc w + (2 ^ k - 1)) % 2 ^ k ≡ suc w - 1 = ap (λ (m : ℕ). m % 2 ^ k) round ∙ mul-add-mod_self_right 1 (2 ^ k) w ∙ mod-eq_of_lt (omega (arith, h)) ∙ omega arith in
    ap (λ (m : ℕ). members (bit_and (suc w) m)) back ∙ members_and (suc w) (suc w - 1) ∙ fun_ext (one_less k (suc w) h)

-- ---- the size

bit_indicator : (d : ℕ) → d < 2 → d ≡ indicator (eqb d 1)
unfolding indicator
bit_indicator zero h = refl
bit_indicator (suc zero) h = refl
bit_indicator (suc (suc d)) h = absurd (omega arith)

ones_small : (d : ℕ) → d < 2 → ones d ≡ d
unfolding ones
ones_small zero h = refl
ones_small (suc zero) h = refl
ones_small (suc (suc d)) h = absurd (omega arith)

ones_low : (k w : ℕ) → ones (w % 2 ^ k) ≡ # k (members w)
unfolding ones # members
ones_low zero w = ap ones (lt-one (mod-lt w (lit< tt)))
ones_low (suc k) w =
    ap (λ (m : ℕ). ones (w % 2 ^ m)) (sym (one-add k)) ∙ ap ones (mod-pow-add w 1 k) ∙ ones_cat k (bit w k) (w % 2 ^ k) (mod-lt w (pow_pos k))
    ∙ ap₂ (λ (a b : ℕ). a + b) (ones_small (bit w k) (bit_lt w k) ∙ bit_indicator (bit w k) (bit_lt w k)) (ones_low k w)

pub size_ones : (k w : ℕ) → w < 2 ^ k → ones w ≡ # k (members w)
size_ones k w h = ap ones (sym (mod-eq_of_lt h)) ∙ ones_low k w

-- ---- words are equal where their members are

pub members_ext : (k v w : ℕ) → v < 2 ^ k → w < 2 ^ k → ((x : ℕ) → x < k → members v x ≡ members w x) → v ≡ w
unfolding members
members_ext k v w hv hw e = bits_ext k v w hv hw (λ x l. same (bit v x) (bit w x) (bit_lt v x) (bit_lt w x) (e x l))
  where
    same : (c d : ℕ) → c < 2 → d < 2 → eqb c 1 ≡ eqb d 1 → c ≡ d
    same zero zero h l e = refl
    same zero (suc zero) h l e = absurd (true≢false (sym e))
    same (suc zero) zero h l e = absurd (true≢false e)
    same (suc zero) (suc zero) h l e = refl
    same zero (suc (suc d)) h l e = absurd (omega arith)
    same (suc zero) (suc (suc d)) h l e = absurd (omega arith)
    same (suc (suc c)) d h l e = absurd (omega arith)

no_members : (k w : ℕ) → w < 2 ^ k → # k (members w) ≡ 0 → w ≡ 0
no_members k w h e = members_ext k w 0 h (pow_pos k) (λ x l. not_true (members w x) (λ m.
    omega (arith, e, #-⊖ k (members w) x l m)) ∙ sym (ap (λ (S : Set). S x) members_zero))

-- the number with no column is 0, and no other
pub none_test : (k w : ℕ) → w < 2 ^ k → eqb w 0 ≡ eqb (# k (members w)) 0
none_test k w h = iff_eq (eqb w 0) (eqb (# k (members w)) 0)
    (λ e. eq-eqb _ 0 (ap (λ (v : ℕ). # k (members v)) (eqb-true w 0 e) ∙ ap (# k) members_zero ∙ #-none k))
    (λ e. eq-eqb w 0 (no_members k w h (eqb-true _ 0 e)))

pub word_members : (k w : ℕ) → w < 2 ^ k → w ≡ word_of k (members w)
unfolding word_of members
word_members zero w h = lt-one h
word_members (suc k) w h =
    let p = pow-suc 2 k in
    let half : w / 2 ≡ word_of k (members (w / 2)) = word_members k (w / 2) (omega arith) in
    let low : w % 2 ≡ indicator (eqb (bit w 0) 1) = sym (bit_zero w) ∙ bit_indicator (bit w 0) (bit_lt w 0) in
    let high : word_of k (members (w / 2)) ≡ word_of k (λ x. members w (suc x)) = ap (word_of k) (fun_ext (λ x. sym (members_half w x))) in
    omega arith

-- ---- no column from n on

pub within_in_iff : (k n w : ℕ) → (within_in k n w ≡ true) ↔ ((x : ℕ) → x < k → x ∈ members w → x < n)
unfolding within_in
within_in_iff k n w = (
  λ e x l m. ltb-true x n (implied (members w x) (ltb x n) ((all_iff k (λ x. not (members w x) || ltb x n)).0 e x l) m),
  λ h. (all_iff k (λ x. not (members w x) || ltb x n)).1 (λ x l. implies (members w x) (ltb x n) (λ m. lt-ltb x n (h x l m))),
)

pub within_iff : (n w : ℕ) → (within n w ≡ true) ↔ ((x : ℕ) → x < width → x ∈ members w → x < n)
within_iff = within_in_iff width

pub within_pow : (k n w : ℕ) → w < 2 ^ k → within_in k n w ≡ ltb w (2 ^ n)
within_pow k n w h = iff_eq (within_in k n w) (ltb w (2 ^ n))
    (λ e. lt-ltb w (2 ^ n) (small ((within_in_iff k n w).0 e)))
    (λ e. (within_in_iff k n w).1 (λ x l m. elim (dec_lt x n) [
      | yes lx ↦ lx
      | no nx ↦ absurd (true≢false (sym m ∙ members_beyond n w x (ltb-true w (2 ^ n) e) (omega arith)))
    ]))
  where
    small : ((x : ℕ) → x < k → x ∈ members w → x < n) → w < 2 ^ n
    small inside = elim (dec_lt n k) [
      | no nl ↦ let m : 2 ^ k ≤ 2 ^ n = pow_mono {i = k} {j = n} (omega arith) in omega arith
      | yes l ↦
          let same : w ≡ w % 2 ^ n = members_ext k w (w % 2 ^ n) h (omega (arith, mod-le w (2 ^ n))) (λ x lx. agree x lx) in
          omega (arith, mod-lt w (pow_pos n))
    ]
      where
        agree : (x : ℕ) → x < k → members w x ≡ members (w % 2 ^ n) x
        agree x lx = elim (dec_lt x n) [
          | yes lo ↦ sym (members_mod n w x lo)
          | no hi ↦ not_true (members w x) (λ m. hi (inside x lx m)) ∙ sym (members_beyond n (w % 2 ^ n) x (mod-lt w (pow_pos n)) (omega arith))
        ]

pub within_shift : (k n w : ℕ) → w < 2 ^ k → eqb (w / 2 ^ n) 0 ≡ within_in k n w
within_shift k n w h = iff_eq (eqb (w / 2 ^ n) 0) (ltb w (2 ^ n))
    (λ e. lt-ltb w (2 ^ n) (omega (arith, (div-lt_iff_lt-mul {k = 2 ^ n} {x = w} {y = 1} (pow_pos n)).0 (omega (arith, eqb-true (w / 2 ^ n) 0 e)))))
    (λ e. eq-eqb (w / 2 ^ n) 0 (div-eq_of_lt (ltb-true w (2 ^ n) e)))
    ∙ sym (within_pow k n w h)

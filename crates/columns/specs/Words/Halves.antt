-- A set of two words by its halves: what holds of the columns of each word holds of the set. Assumes nothing.
use Rattle.std.specs.Prelude.{ℕ, zero, suc, ◌+◌, ◌-◌, ◌*◌, ◌/◌, ◌%◌, ◌^◌, ◌≤◌, ◌<◌, ◌≡◌, refl, Bool, true, false, not, ◌&&◌, ◌||◌, cond, ◌≢◌, eqb, leb, ltb}
use Rattle.std.proofs.Common.{sym, ap, ap₂, ◌∙◌, mul-le-mul_left, mul-suc, lt_of_lt_of_le, arith, pow_mono, le-leb, eq-eqb, ne_eqb, eqb-true, lt-ltb, le-ltb, ltb-true}
use Rattle.std.proofs.Math.Path.{fun_ext}
use Rattle.std.proofs.Math.Decide.{dec_lt}
use Rattle.std.specs.Int.Bits.{bit_and, and_lt}
use Rattle.std.proofs.lemmas.Bool.{lt-leb, eqb-false}
use Rattle.counting.specs.Bools.{not_true, iff_eq}
use Rattle.counting.specs.Sets.{Set, ◌∈◌, ◌∩◌, #, any, Some}
use Rattle.counting.specs.Counts.{#-ext, #-pick, size_any}
use Rattle.counting.specs.Blocks.{#-plus, low_or_high}
use Rattle.columns.specs.Columns.{word_width, width, members, none, upto_in, upto, inserted_in, inserted, removed, moved_up_in, moved_up, moved_down, least, within_in, within}
use Rattle.columns.specs.ColumnSets.{joined}
use Rattle.columns.specs.Words.Operations.{and_none, and_true, members_mod, members_and, members_down, members_beyond, none_test, within_in_iff, within_iff}
use Rattle.columns.specs.Words.SetLaws.{nothing_in, least_there}

-- ---- the columns of each half

-- over any m: omega takes no number of more than 38 digits, and 2 ^ 128 has 39
two_digits : (m l h : ℕ) → l < m → h < m → l + m * h < m * m
two_digits m l h a b = omega (arith, mul-le-mul_left m b, mul-suc m h)

pub joined_below : (l h : ℕ) → l < 2 ^ word_width → h < 2 ^ word_width → joined l h < 2 ^ width
joined_below l h a b = two_digits (2 ^ word_width) l h a b

pub joined_low : (l h : ℕ) → l < 2 ^ word_width → joined l h % 2 ^ word_width ≡ l
joined_low l h b = omega arith

pub joined_high : (l h : ℕ) → l < 2 ^ word_width → joined l h / 2 ^ word_width ≡ h
joined_high l h b = omega arith

pub members_low : (l h x : ℕ) → l < 2 ^ word_width → x < word_width → members (joined l h) x ≡ members l x
members_low l h x b lx = sym (members_mod word_width (joined l h) x lx) ∙ ap (λ (w : ℕ). members w x) (joined_low l h b)

members_high : (l h x : ℕ) → l < 2 ^ word_width → members (joined l h) (word_width + x) ≡ members h x
unfolding moved_down
members_high l h x b = sym (ap (λ (S : Set). S x) (members_down (joined l h) word_width)) ∙ ap (λ (w : ℕ). members w x) (joined_high l h b)

-- two sets are the same if they agree on each half
halves_ext : (S T : Set) → ((x : ℕ) → x < word_width → S x ≡ T x) → ((x : ℕ) → S (word_width + x) ≡ T (word_width + x)) → S ≡ T
halves_ext S T low high = fun_ext (λ j. low_or_high word_width j (low j) (λ x e. ap S e ∙ high x ∙ sym (ap T e)))

-- a set by the columns of its words
by_halves : (l h : ℕ) (T : Set) → l < 2 ^ word_width → ((x : ℕ) → x < word_width → members l x ≡ T x)
    → ((x : ℕ) → members h x ≡ T (word_width + x)) → members (joined l h) ≡ T
by_halves l h T b low high =
    halves_ext (members (joined l h)) T (λ x lx. members_low l h x b lx ∙ low x lx) (λ x. members_high l h x b ∙ high x)

-- ---- a test of two sets' columns, one by one

pub column_wise : (f : Bool → Bool → Bool) (l h l₁ h₁ l₂ h₂ : ℕ) → l < 2 ^ word_width → l₁ < 2 ^ word_width → l₂ < 2 ^ word_width
    → members l ≡ (λ x. f (members l₁ x) (members l₂ x)) → members h ≡ (λ x. f (members h₁ x) (members h₂ x))
    → members (joined l h) ≡ (λ x. f (members (joined l₁ h₁) x) (members (joined l₂ h₂) x))
column_wise f l h l₁ h₁ l₂ h₂ b b₁ b₂ e d =
    by_halves l h _ b
    (λ x lx. ap (λ (S : Set). S x) e ∙ sym (ap₂ f (members_low l₁ h₁ x b₁ lx) (members_low l₂ h₂ x b₂ lx)))
    (λ x. ap (λ (S : Set). S x) d ∙ sym (ap₂ f (members_high l₁ h₁ x b₁) (members_high l₂ h₂ x b₂)))

-- ---- sizes

pub size_halves : (l h : ℕ) → l < 2 ^ word_width → # word_width (members l) + # word_width (members h) ≡ # width (members (joined l h))
size_halves l h b =
    sym (#-plus word_width word_width (members (joined l h))
    ∙ ap₂ (λ (m n : ℕ). m + n)
    (#-ext word_width _ (members l) (λ x lx. members_low l h x b lx))
    (#-ext word_width (λ x. members (joined l h) (word_width + x)) (members h) (λ x lx. members_high l h x b)))

-- ---- a column in common

-- a number of one word has a column in common with a set where it has one with the set's low word
pub common_low : (l h w : ℕ) → l < 2 ^ word_width → w < 2 ^ word_width → not (eqb (bit_and l w) 0) ≡ any width (members w ∩ members (joined l h))
common_low l h w bl bw =
    ap not (none_test width (bit_and l w) (lt_of_lt_of_le (and_lt word_width l w bl bw) (pow_mono {i = word_width} {j = width} (omega arith)))
    ∙ ap (λ (S : Set). eqb (# width S) 0) (members_and l w ∙ fun_ext both))
    ∙ size_any width (members w ∩ members (joined l h))
  where
    turned : (p q r : Bool) → q ≡ r → (q && p) ≡ (p && r)
    turned true true r e = e
    turned true false r e = e
    turned false true r e = refl
    turned false false r e = refl

    neither : (p q r : Bool) → p ≡ false → (q && p) ≡ (p && r)
    neither p true r e = e ∙ sym (ap (λ b. b && r) e)
    neither p false r e = sym (ap (λ b. b && r) e)

    both : (x : ℕ) → (members l x && members w x) ≡ (members w x && members (joined l h) x)
    both x = elim (dec_lt x word_width) [
      | yes lx ↦ turned (members w x) (members l x) (members (joined l h) x) (sym (members_low l h x bl lx))
      | no nx ↦ neither (members w x) (members l x) (members (joined l h) x) (members_beyond word_width w x bw (omega arith))
    ]

-- ---- empty sets

-- a size is 0, or not, as its test says
pub is_none : (n : ℕ) (t : Bool) → t ≡ eqb n 0 → t ≡ true → n ≡ 0
is_none n t e h = eqb-true n 0 (sym e ∙ h)

pub is_some : (n : ℕ) (t : Bool) → t ≡ eqb n 0 → t ≡ false → n ≢ 0
is_some n t e h = eqb-false n 0 (sym e ∙ h)

-- the set is empty where its high word is, if the low word is
pub empty_high : (l h : ℕ) → l < 2 ^ word_width → # word_width (members l) ≡ 0 → eqb (# word_width (members h)) 0 ≡ eqb (# width (members (joined l h))) 0
empty_high l h b z = let same : # word_width (members h) ≡ # width (members (joined l h)) = omega (arith, size_halves l h b) in rw same refl

pub empty_low : (l h : ℕ) → l < 2 ^ word_width → # word_width (members l) ≢ 0 → false ≡ eqb (# width (members (joined l h))) 0
empty_low l h b nz = sym (ne_eqb (# width (members (joined l h))) 0 (λ e. omega (arith, size_halves l h b)))

-- ---- the least column

least_low : (a b : ℕ) (S : Set) → least a S < a → least a S ≡ least (a + b) S
unfolding least
least_low zero b S l = absurd (omega arith)
least_low (suc a) b S l = let e : suc a + b ≡ suc (a + b) = omega arith in rw e (go (S 0) refl (λ h. least_low a b (λ x. S (suc x)) h))
  where
    go : (s : Bool) → S 0 ≡ s → (least a (λ x. S (suc x)) < a → least a (λ x. S (suc x)) ≡ least (a + b) (λ x. S (suc x)))
        → least (suc a) S ≡ least (suc (a + b)) S
    go true e later = ap (λ s. cond s 0 (suc (least a (λ x. S (suc x))))) e ∙ sym (ap (λ s. cond s 0 (suc (least (a + b) (λ x. S (suc x))))) e)
    go false e later =
        let here : least (suc a) S ≡ suc (least a (λ x. S (suc x))) = ap (λ s. cond s 0 (suc (least a (λ x. S (suc x))))) e in
        here ∙ ap suc (later (omega arith)) ∙ sym (ap (λ s. cond s 0 (suc (least (a + b) (λ x. S (suc x))))) e)

least_high : (a b : ℕ) (S : Set) → ((x : ℕ) → x < a → S x ≡ false) → a + least b (λ x. S (a + x)) ≡ least (a + b) S
unfolding least
least_high zero b S h = let e : 0 + b ≡ b = omega arith in rw e (omega (arith, ap (least b) (fun_ext (λ x. ap S (nothing_more x)))))
  where
    nothing_more : (x : ℕ) → 0 + x ≡ x
    nothing_more x = omega arith
least_high (suc a) b S h =
    let e : suc a + b ≡ suc (a + b) = omega arith in
    let later : a + least b (λ x. S (suc (a + x))) ≡ least (a + b) (λ x. S (suc x)) = least_high a b (λ x. S (suc x)) (λ x l. h (suc x) (omega arith)) in
    rw e (omega (arith, later, ap (least b) (fun_ext (λ x. ap S (one_more x))), ap (λ s. cond s 0 (suc (least (a + b) (λ x. S (suc x))))) (h 0 (omega arith))))
  where
    one_more : (x : ℕ) → suc a + x ≡ suc (a + x)
    one_more x = omega arith

least_ext : (n : ℕ) (S T : Set) → ((x : ℕ) → x < n → S x ≡ T x) → least n S ≡ least n T
unfolding least
least_ext zero S T h = refl
least_ext (suc n) S T h =
    ap₂ (λ s (m : ℕ). cond s 0 (suc m)) (h 0 (omega arith)) (least_ext n (λ x. S (suc x)) (λ x. T (suc x)) (λ x l. h (suc x) (omega arith)))

pub first_high : (l h : ℕ) → l < 2 ^ word_width → # word_width (members l) ≡ 0 → word_width + least word_width (members h) ≡ least width (members (joined l h))
first_high l h b z =
    ap (λ (m : ℕ). word_width + m) (least_ext word_width (members h) (λ x. members (joined l h) (word_width + x)) (λ x lx. sym (members_high l h x b)))
    ∙ least_high word_width word_width (members (joined l h)) (λ x lx. members_low l h x b lx ∙ not_true (members l x) (nothing_in word_width (members l) z x lx))

pub first_low : (l h : ℕ) → l < 2 ^ word_width → # word_width (members l) ≢ 0 → least word_width (members l) ≡ least width (members (joined l h))
first_low l h b nz =
    let same : least word_width (members l) ≡ least word_width (members (joined l h)) = least_ext word_width (members l) (members (joined l h)) (λ x lx. sym (members_low l h x b lx)) in
    same ∙ least_low word_width word_width (members (joined l h)) (omega (arith, same, (least_there word_width (members l) nz).0))

-- ---- all columns below n

upto_low : (n x : ℕ) → x < word_width → upto_in word_width n x ≡ upto n x
unfolding upto_in
upto_low n x l = ap (λ b. ltb x n && b) (lt-ltb x word_width l ∙ sym (lt-ltb x width (omega arith)))

ltb_plus : (x m : ℕ) → ltb x m ≡ ltb (word_width + x) (word_width + m)
ltb_plus x m = iff_eq (ltb x m) (ltb (word_width + x) (word_width + m))
    (λ e. lt-ltb (word_width + x) (word_width + m) (omega (arith, ltb-true x m e)))
    (λ e. lt-ltb x m (omega (arith, ltb-true (word_width + x) (word_width + m) e)))

pub below_low : (l h n : ℕ) → l < 2 ^ word_width → n < word_width → members l ≡ upto_in word_width n → members h ≡ none → members (joined l h) ≡ upto n
unfolding upto_in
below_low l h n b ln e d = by_halves l h (upto n) b (λ x lx. ap (λ (S : Set). S x) e ∙ upto_low n x lx)
    (λ x. ap (λ (S : Set). S x) d ∙ sym (ap (λ b. b && ltb (word_width + x) width) (le-ltb (word_width + x) n (omega arith))))

pub below_high : (l h n : ℕ) → l < 2 ^ word_width → word_width ≤ n → members l ≡ upto_in word_width n → members h ≡ upto_in word_width (n - word_width) → members (joined l h) ≡ upto n
unfolding upto_in
below_high l h n b ln e d = by_halves l h (upto n) b (λ x lx. ap (λ (S : Set). S x) e ∙ upto_low n x lx)
    (λ x. ap (λ (S : Set). S x) d ∙ ap₂ ◌&&◌ (ltb_plus x (n - word_width) ∙ ap (ltb (word_width + x)) (sym (back n ln))) (ltb_plus x word_width))
  where
    back : (n : ℕ) → word_width ≤ n → n ≡ word_width + (n - word_width)
    back n l = omega arith

-- ---- one column put in or taken out

eqb_plus : (x j : ℕ) → word_width ≤ j → eqb x (j - word_width) ≡ eqb (word_width + x) j
eqb_plus x j l = iff_eq (eqb x (j - word_width)) (eqb (word_width + x) j)
    (λ e. eq-eqb (word_width + x) j (omega (arith, eqb-true x (j - word_width) e)))
    (λ e. eq-eqb x (j - word_width) (omega (arith, eqb-true (word_width + x) j e)))

room_low : (j : ℕ) → j < word_width → ltb j word_width ≡ ltb j width
room_low j l = lt-ltb j word_width l ∙ sym (lt-ltb j width (omega arith))

room_high : (j : ℕ) → word_width ≤ j → ltb (j - word_width) word_width ≡ ltb j width
room_high j l = iff_eq (ltb (j - word_width) word_width) (ltb j width)
    (λ e. lt-ltb j width (omega (arith, ltb-true (j - word_width) word_width e)))
    (λ e. lt-ltb (j - word_width) word_width (omega (arith, ltb-true j width e)))

or_nothing : (p q r : Bool) → q ≡ false → p ≡ (p || (q && r))
or_nothing true q r e = refl
or_nothing false q r e = sym (ap (λ q. q && r) e)

and_rest : (p q : Bool) → q ≡ false → p ≡ (p && not q)
and_rest true q e = sym (ap not e)
and_rest false q e = refl

pub with_low : (l h l' j : ℕ) → l < 2 ^ word_width → l' < 2 ^ word_width → j < word_width → members l' ≡ inserted_in word_width (members l) j
    → members (joined l' h) ≡ inserted (members (joined l h)) j
unfolding inserted_in
with_low l h l' j b b' lj e = by_halves l' h (inserted (members (joined l h)) j) b'
    (λ x lx. ap (λ (S : Set). S x) e ∙ ap₂ (λ p q. p || (eqb x j && q)) (sym (members_low l h x b lx)) (room_low j lj))
    (λ x. sym (members_high l h x b) ∙ or_nothing (members (joined l h) (word_width + x)) (eqb (word_width + x) j) (ltb j width) (ne_eqb (word_width + x) j (λ d. omega arith)))

pub with_high : (l h h' j : ℕ) → l < 2 ^ word_width → word_width ≤ j → members h' ≡ inserted_in word_width (members h) (j - word_width)
    → members (joined l h') ≡ inserted (members (joined l h)) j
unfolding inserted_in
with_high l h h' j b lj e = by_halves l h' (inserted (members (joined l h)) j) b
    (λ x lx. sym (members_low l h x b lx) ∙ or_nothing (members (joined l h) x) (eqb x j) (ltb j width) (ne_eqb x j (λ d. omega arith)))
    (λ x. ap (λ (S : Set). S x) e ∙ ap₂ ◌||◌ (sym (members_high l h x b)) (ap₂ ◌&&◌ (eqb_plus x j lj) (room_high j lj)))

pub without_low : (l h l' j : ℕ) → l < 2 ^ word_width → l' < 2 ^ word_width → j < word_width → members l' ≡ removed (members l) j
    → members (joined l' h) ≡ removed (members (joined l h)) j
unfolding removed
without_low l h l' j b b' lj e = by_halves l' h (removed (members (joined l h)) j) b'
    (λ x lx. ap (λ (S : Set). S x) e ∙ ap (λ p. p && not (eqb x j)) (sym (members_low l h x b lx)))
    (λ x. sym (members_high l h x b) ∙ and_rest (members (joined l h) (word_width + x)) (eqb (word_width + x) j) (ne_eqb (word_width + x) j (λ d. omega arith)))

pub without_high : (l h h' j : ℕ) → l < 2 ^ word_width → word_width ≤ j → members h' ≡ removed (members h) (j - word_width)
    → members (joined l h') ≡ removed (members (joined l h)) j
unfolding removed
without_high l h h' j b lj e = by_halves l h' (removed (members (joined l h)) j) b
    (λ x lx. sym (members_low l h x b lx) ∙ and_rest (members (joined l h) x) (eqb x j) (ne_eqb x j (λ d. omega arith)))
    (λ x. ap (λ (S : Set). S x) e ∙ ap₂ (λ p q. p && not q) (sym (members_high l h x b)) (eqb_plus x j lj))

-- ---- the least column taken out

pub without_first_high : (l h h' : ℕ) → l < 2 ^ word_width → # word_width (members l) ≡ 0 → members h' ≡ removed (members h) (least word_width (members h))
    → members (joined l h') ≡ removed (members (joined l h)) (least width (members (joined l h)))
without_first_high l h h' b z e =
    let m = least word_width (members h) in
    let down : m ≡ word_width + m - word_width = omega arith in
    without_high l h h' (word_width + m) b (omega arith) (e ∙ ap (removed (members h)) down) ∙ ap (removed (members (joined l h))) (first_high l h b z)

pub without_first_low : (l h l' : ℕ) → l < 2 ^ word_width → l' < 2 ^ word_width → # word_width (members l) ≢ 0 → members l' ≡ removed (members l) (least word_width (members l))
    → members (joined l' h) ≡ removed (members (joined l h)) (least width (members (joined l h)))
without_first_low l h l' b b' nz e =
    without_low l h l' (least word_width (members l)) b b' (least_there word_width (members l) nz).0 e ∙ ap (removed (members (joined l h))) (first_low l h b nz)

-- ---- columns moved up and down

-- the column at a place that is known to be high, or low, in the set
pub at_high : (l h x y : ℕ) → l < 2 ^ word_width → y ≡ word_width + x → members h x ≡ members (joined l h) y
at_high l h x y b e = sym (ap (members (joined l h)) e ∙ members_high l h x b)

pub at_low : (l h x y : ℕ) → l < 2 ^ word_width → y ≡ x → x < word_width → members l x ≡ members (joined l h) y
at_low l h x y b e lx = sym (ap (members (joined l h)) e ∙ members_low l h x b lx)

or_false : (p : Bool) → (p || false) ≡ p
or_false true = refl
or_false false = refl

pub raised_low : (l h l' h' m : ℕ) → l < 2 ^ word_width → l' < 2 ^ word_width → m < word_width → members l' ≡ moved_up_in word_width (members l) m
    → members h' ≡ (λ x. moved_up_in word_width (members h) m x || moved_down (members l) (word_width - m) x) → members (joined l' h') ≡ moved_up (members (joined l h)) m
unfolding moved_up_in moved_down
raised_low l h l' h' m b b' lm e d = by_halves l' h' (moved_up (members (joined l h)) m) b'
    (λ x lx. ap (λ (S : Set). S x) e ∙ ap₂ (λ p q. leb m x && p && q) (at_low l h (x - m) (x - m) b refl (omega arith)) (room_low x lx))
    (λ x. ap (λ (S : Set). S x) d ∙ elim (dec_lt x m) [ yes lx ↦ crossed x lx | no nx ↦ kept x (omega arith) ])
  where
    crossed : (x : ℕ) → x < m
        → ((leb m x && members h (x - m) && ltb x word_width) || members l (word_width - m + x)) ≡ (leb m (word_width + x) && members (joined l h) (word_width + x - m) && ltb (word_width + x) width)
    crossed x lx =
        ap (λ a. (a && members h (x - m) && ltb x word_width) || members l (word_width - m + x)) (lt-leb m x lx)
        ∙ at_low l h (word_width - m + x) (word_width + x - m) b (omega arith) (omega arith)
        ∙ sym (ap₂ (λ a c. a && members (joined l h) (word_width + x - m) && c) (le-leb m (word_width + x) (omega arith)) (lt-ltb (word_width + x) width (omega arith))
        ∙ sym (and_true (members (joined l h) (word_width + x - m))))

    kept : (x : ℕ) → m ≤ x
        → ((leb m x && members h (x - m) && ltb x word_width) || members l (word_width - m + x)) ≡ (leb m (word_width + x) && members (joined l h) (word_width + x - m) && ltb (word_width + x) width)
    kept x lx =
        ap₂ (λ a c. (a && members h (x - m) && ltb x word_width) || c) (le-leb m x lx) (members_beyond word_width l (word_width - m + x) b (omega arith))
        ∙ or_false (members h (x - m) && ltb x word_width)
        ∙ ap₂ ◌&&◌ (at_high l h (x - m) (word_width + x - m) b (omega arith)) (ltb_plus x word_width)
        ∙ sym (ap (λ a. a && members (joined l h) (word_width + x - m) && ltb (word_width + x) width) (le-leb m (word_width + x) (omega arith)))

pub raised_high : (l h l' h' m : ℕ) → l < 2 ^ word_width → l' < 2 ^ word_width → word_width ≤ m → members l' ≡ none
    → members h' ≡ moved_up_in word_width (members l) (m - word_width) → members (joined l' h') ≡ moved_up (members (joined l h)) m
unfolding moved_up_in
raised_high l h l' h' m b b' lm e d = by_halves l' h' (moved_up (members (joined l h)) m) b'
    (λ x lx. ap (λ (S : Set). S x) e ∙ sym (ap (λ a. a && members (joined l h) (x - m) && ltb x width) (lt-leb m x (omega arith))))
    (λ x. ap (λ (S : Set). S x) d ∙ ap (λ a. a && members l (x - (m - word_width)) && ltb x word_width) (same_test x) ∙ elim (dec_lt x word_width) [ yes lx ↦ inside x lx | no nx ↦ outside x (omega arith) ])
  where
    same_test : (x : ℕ) → leb (m - word_width) x ≡ leb m (word_width + x)
    same_test x = elim (dec_lt x (m - word_width)) [
      | yes l ↦ lt-leb (m - word_width) x l ∙ sym (lt-leb m (word_width + x) (omega arith))
      | no nl ↦ le-leb (m - word_width) x (omega arith) ∙ sym (le-leb m (word_width + x) (omega arith))
    ]

    inside : (x : ℕ) → x < word_width
        → (leb m (word_width + x) && members l (x - (m - word_width)) && ltb x word_width) ≡ (leb m (word_width + x) && members (joined l h) (word_width + x - m) && ltb (word_width + x) width)
    inside x lx = elim (dec_lt (word_width + x) m) [
      | yes lo ↦ ap (λ a. a && members l (x - (m - word_width)) && ltb x word_width) (lt-leb m (word_width + x) lo) ∙ sym (ap (λ a. a && members (joined l h) (word_width + x - m) && ltb (word_width + x) width) (lt-leb m (word_width + x) lo))
      | no hi ↦ ap₂ (λ p q. leb m (word_width + x) && p && q) (at_low l h (x - (m - word_width)) (word_width + x - m) b (omega arith) (omega arith)) (ltb_plus x word_width)
    ]

    outside : (x : ℕ) → word_width ≤ x
        → (leb m (word_width + x) && members l (x - (m - word_width)) && ltb x word_width) ≡ (leb m (word_width + x) && members (joined l h) (word_width + x - m) && ltb (word_width + x) width)
    outside x hx =
        ap (λ q. leb m (word_width + x) && members l (x - (m - word_width)) && q) (le-ltb x word_width hx) ∙ sym (and_none (leb m (word_width + x) && members l (x - (m - word_width))))
        ∙ sym (ap (λ q. leb m (word_width + x) && members (joined l h) (word_width + x - m) && q) (le-ltb (word_width + x) width (omega arith)) ∙ sym (and_none (leb m (word_width + x) && members (joined l h) (word_width + x - m))))

pub lowered_low : (l h l' h' m : ℕ) → l < 2 ^ word_width → l' < 2 ^ word_width → m < word_width
    → members l' ≡ (λ x. moved_down (members l) m x || moved_up_in word_width (members h) (word_width - m) x) → members h' ≡ moved_down (members h) m
    → members (joined l' h') ≡ moved_down (members (joined l h)) m
unfolding moved_up_in moved_down
lowered_low l h l' h' m b b' lm e d = by_halves l' h' (moved_down (members (joined l h)) m) b'
    (λ x lx. ap (λ (S : Set). S x) e ∙ elim (dec_lt (m + x) word_width) [ yes lo ↦ kept x lo | no hi ↦ crossed x lx (omega arith) ])
    (λ x. ap (λ (S : Set). S x) d ∙ at_high l h (m + x) (m + (word_width + x)) b (omega arith))
  where
    kept : (x : ℕ) → m + x < word_width → (members l (m + x) || (leb (word_width - m) x && members h (x - (word_width - m)) && ltb x word_width)) ≡ members (joined l h) (m + x)
    kept x lo =
        ap (λ a. members l (m + x) || (a && members h (x - (word_width - m)) && ltb x word_width)) (lt-leb (word_width - m) x (omega arith))
        ∙ or_false (members l (m + x)) ∙ at_low l h (m + x) (m + x) b refl lo

    crossed : (x : ℕ) → x < word_width → word_width ≤ m + x
        → (members l (m + x) || (leb (word_width - m) x && members h (x - (word_width - m)) && ltb x word_width)) ≡ members (joined l h) (m + x)
    crossed x lx hi =
        ap (λ p. p || (leb (word_width - m) x && members h (x - (word_width - m)) && ltb x word_width)) (members_beyond word_width l (m + x) b hi)
        ∙ ap₂ (λ a c. a && members h (x - (word_width - m)) && c) (le-leb (word_width - m) x (omega arith)) (lt-ltb x word_width lx)
        ∙ sym (and_true (members h (x - (word_width - m)))) ∙ at_high l h (x - (word_width - m)) (m + x) b (omega arith)

pub lowered_high : (l h l' h' m : ℕ) → l < 2 ^ word_width → h < 2 ^ word_width → l' < 2 ^ word_width → word_width ≤ m → members l' ≡ moved_down (members h) (m - word_width)
    → members h' ≡ none → members (joined l' h') ≡ moved_down (members (joined l h)) m
unfolding moved_down
lowered_high l h l' h' m b bh b' lm e d = by_halves l' h' (moved_down (members (joined l h)) m) b'
    (λ x lx. ap (λ (S : Set). S x) e ∙ at_high l h (m - word_width + x) (m + x) b (omega arith))
    (λ x. ap (λ (S : Set). S x) d ∙ sym (members_beyond word_width h (m + x) bh (omega arith)) ∙ at_high l h (m + x) (m + (word_width + x)) b (omega arith))

-- ---- no column from n on

pub within_low : (l h n : ℕ) → l < 2 ^ word_width → n < word_width → # word_width (members h) ≡ 0 → within_in word_width n l ≡ within n (joined l h)
within_low l h n b ln z = iff_eq (within_in word_width n l) (within n (joined l h))
    (λ e. (within_iff n (joined l h)).1 (λ x lx m. low_or_high word_width x
    (λ lo. (within_in_iff word_width n l).0 e x lo (sym (members_low l h x b lo) ∙ m))
    (λ y d. absurd (nothing_in word_width (members h) z y (omega arith) (at_high l h y x b d ∙ m)))))
    (λ e. (within_in_iff word_width n l).1 (λ x lx m. (within_iff n (joined l h)).0 e x (omega arith) (members_low l h x b lx ∙ m)))

pub not_within : (l h n : ℕ) → l < 2 ^ word_width → n < word_width → # word_width (members h) ≢ 0 → false ≡ within n (joined l h)
not_within l h n b ln nz = sym (not_true (within n (joined l h)) (λ e.
    let w : Some word_width (λ x. x ∈ members h) = #-pick word_width (members h) (omega arith) in
    let inside : word_width + w.0 < n = (within_iff n (joined l h)).0 e (word_width + w.0) (omega (arith, w.1)) (members_high l h w.0 b ∙ w.2) in
    omega arith))

pub within_high : (l h n : ℕ) → l < 2 ^ word_width → word_width ≤ n → within_in word_width (n - word_width) h ≡ within n (joined l h)
within_high l h n b ln = iff_eq (within_in word_width (n - word_width) h) (within n (joined l h))
    (λ e. (within_iff n (joined l h)).1 (λ x lx m. low_or_high word_width x
    (λ lo. omega arith)
    (λ y d. omega (arith, (within_in_iff word_width (n - word_width) h).0 e y (omega arith) (at_high l h y x b d ∙ m)))))
    (λ e. (within_in_iff word_width (n - word_width) h).1 (λ x lx m. omega (arith, (within_iff n (joined l h)).0 e (word_width + x) (omega arith) (members_high l h x b ∙ m))))

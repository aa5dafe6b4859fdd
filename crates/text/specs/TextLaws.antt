-- The laws of decimals, items and lines, and how long they are. Assumes nothing.
use Rattle.std.specs.Prelude.{ℕ, zero, suc, ◌+◌, ◌*◌, ◌/◌, ◌%◌, ◌^◌, ◌≤◌, ◌<◌, ◌≡◌, refl, true, ◌≢◌, length, get_or, drop}
use Rattle.std.proofs.Common.{sym, ap, ◌∙◌, arith, pow-suc, mul-suc, add-one, length-append, drop_of_length-le, drop-cons, lt-ltb, le-ltb, eq-eqb, ne_eqb}
use Rattle.std.proofs.Math.Bool.{Bool-discrete}
use Rattle.std.proofs.Math.Logic.{by_cases}
use mathlib.Core.List.{List, [], ◌∷◌, ◌++◌, flat_map}
use Rattle.std.proofs.Math.Decide.{ℕ_discrete, dec_lt}
use Rattle.counting.specs.Bools.{not_true}
use Rattle.counting.specs.Sets.{Set}
use Rattle.columns.specs.Columns.{width}
use Rattle.text.specs.Text.{ascii, digits, decimal, line, item, pair_item, pair_unless, pair_items, columns_from, column_items, verdict_line, refused_line}

-- ---- decimals

digits_small : (k x : ℕ) → x < 10 → digits k x ≡ (48 + x) ∷ []
unfolding digits
digits_small zero x l = refl
digits_small (suc k) x l = rw (lt-ltb x 10 l) refl

digits_large : (k x : ℕ) → 10 ≤ x → digits (suc k) x ≡ digits k (x / 10) ++ ((48 + x % 10) ∷ [])
unfolding digits
digits_large k x l = rw (le-ltb x 10 l) refl

digits_enough : (k m x : ℕ) → x ≤ k → x ≤ m → digits k x ≡ digits m x
digits_enough zero m x h g = digits_small zero x (omega arith) ∙ sym (digits_small m x (omega arith))
digits_enough (suc k) zero x h g = digits_small (suc k) x (omega arith) ∙ sym (digits_small zero x (omega arith))
digits_enough (suc k) (suc m) x h g =
    let next : x / 10 ≤ k → x / 10 ≤ m → digits k (x / 10) ≡ digits m (x / 10) = digits_enough k m (x / 10) in
    by_cases (dec_lt x 10)
    (λ l. digits_small (suc k) x l ∙ sym (digits_small (suc m) x l))
    (λ nl. digits_large k x (omega arith) ∙ ap (λ (ds : List ℕ). ds ++ ((48 + x % 10) ∷ [])) (next (omega arith) (omega arith)) ∙ sym (digits_large m x (omega arith)))

pub decimal_small : (x : ℕ) → x < 10 → decimal x ≡ (48 + x) ∷ []
unfolding decimal
decimal_small x l = digits_small x x l

pub decimal_large : (x : ℕ) → 10 ≤ x → decimal x ≡ decimal (x / 10) ++ ((48 + x % 10) ∷ [])
unfolding decimal
decimal_large zero l = absurd (omega arith)
decimal_large (suc k) l = digits_large k (suc k) l ∙ ap (λ (ds : List ℕ). ds ++ ((48 + suc k % 10) ∷ [])) (digits_enough k (suc k / 10) (suc k / 10) (omega arith) (omega arith))

digits_one : (x : ℕ) → digits zero x ≡ (48 + x) ∷ []
unfolding digits
digits_one x = refl

digits_length : (k j x : ℕ) → x < 10 ^ suc j → length (digits k x) ≤ suc j
digits_length zero j x l = let e = ap length (digits_one x) in omega arith
digits_length (suc k) zero x l = let e = ap length (digits_small (suc k) x (omega arith)) in omega arith
digits_length (suc k) (suc j) x l =
    let next : x / 10 < 10 ^ suc j → length (digits k (x / 10)) ≤ suc j = digits_length k j (x / 10) in
    by_cases (dec_lt x 10)
    (λ s. let e = ap length (digits_small (suc k) x s) in omega arith)
    (λ ns. (
    let e = ap length (digits_large k x (omega arith)) ∙ length-append (digits k (x / 10)) ((48 + x % 10) ∷ []) in
    let tenth : x / 10 < 10 ^ suc j = omega (arith, pow-suc 10 (suc j)) in
    omega (arith, next tenth)))

decimal_length : (j x : ℕ) → x < 10 ^ suc j → length (decimal x) ≤ suc j
unfolding decimal
decimal_length j x l = digits_length x j x l

-- ---- what lines and items are made of

pub line_is : (word items : List ℕ) → line word items ≡ word ++ (items ++ (10 ∷ []))
unfolding line ascii
line_is word items = refl

pub item_is : (x : ℕ) → item x ≡ (32 ∷ []) ++ decimal x
unfolding item ascii
item_is x = refl

pub pair_item_is : (x y : ℕ) → pair_item x y ≡ item x ++ ((58 ∷ []) ++ decimal y)
unfolding pair_item ascii
pair_item_is x y = refl

pub pair_shown : (nothing x y : ℕ) → y ≢ nothing → pair_unless nothing x y ≡ pair_item x y
unfolding pair_unless
pair_shown nothing x y ne = rw (ne_eqb y nothing ne) refl

pub pair_left_out : (nothing x y : ℕ) → y ≡ nothing → pair_unless nothing x y ≡ []
unfolding pair_unless
pair_left_out nothing x y e = rw (eq-eqb y nothing e) refl

pub pairs_next : (nothing x : ℕ) (ys : List ℕ) → x < length ys → pair_items nothing x (drop x ys) ≡ pair_unless nothing x (get_or ys x 0) ++ pair_items nothing (x + 1) (drop (x + 1) ys)
unfolding pair_items
pairs_next nothing x ys h = rw (drop-cons ys x 0 h, add-one x) refl

pub pairs_none : (nothing x : ℕ) (ys : List ℕ) → length ys ≤ x → pair_items nothing x (drop x ys) ≡ []
unfolding pair_items
pairs_none nothing x ys h = rw (drop_of_length-le ys h) refl

pub verdict_determined : (v : ℕ) → v ≡ 1 → verdict_line v ≡ ascii "verdict determined\n"
unfolding verdict_line line ascii
verdict_determined v e = rw (eq-eqb v 1 e) refl

pub verdict_surplus : (v : ℕ) → v ≡ 2 → verdict_line v ≡ ascii "verdict surplus\n"
unfolding verdict_line line ascii
verdict_surplus v e = rw (ne_eqb v 1 (λ d. omega arith), eq-eqb v 2 e) refl

pub verdict_open : (v : ℕ) → v ≢ 1 → v ≢ 2 → verdict_line v ≡ ascii "verdict open\n"
unfolding verdict_line line ascii
verdict_open v nd ns = rw (ne_eqb v 1 nd, ne_eqb v 2 ns) refl

-- ---- how long they are

-- a number of at most j + 1 digits
pub item_length : (j x : ℕ) → x < 10 ^ suc j → length (item x) ≤ suc (suc j)
item_length j x l = rw item_is (omega (arith, decimal_length j x l))

-- numbers of at most i + 1 and j + 1 digits
pair_length : (i j nothing x y : ℕ) → x < 10 ^ suc i → y < 10 ^ suc j → length (pair_unless nothing x y) ≤ i + j + 4
pair_length i j nothing x y h g = by_cases (ℕ_discrete y nothing)
    (λ e. rw (pair_left_out nothing x y e) (omega arith))
    (λ ne. rw (pair_shown nothing x y ne, pair_item_is, length-append) (omega (arith, item_length i x h, decimal_length j y g)))

-- all places and elements are such numbers
pub pairs_length : (i j nothing x : ℕ) (ys : List ℕ) → x + length ys ≤ 10 ^ suc i → ((k : ℕ) → get_or ys k 0 < 10 ^ suc j) → length (pair_items nothing x ys) ≤ (i + j + 4) * length ys
unfolding pair_items
pairs_length i j nothing x [] h g = omega arith
pairs_length i j nothing x (y ∷ ys) h g =
    let first = pair_length i j nothing x y (omega arith) (g 0) in
    let others = pairs_length i j nothing (suc x) ys (omega arith) (λ k. g (suc k)) in
    rw length-append (omega (arith, first, others, mul-suc (i + j + 4) (length ys)))

columns_length : (k x : ℕ) (S : Set) → x + k ≤ 1000 → length (flat_map item (columns_from k x S)) ≤ 4 * k
unfolding columns_from flat_map
columns_length zero x S h = omega arith
columns_length (suc k) x S h =
    let next = columns_length k (suc x) S (omega arith) in
    by_cases (Bool-discrete (S x) true)
    (λ e. rw (e, length-append) (omega (arith, item_length 2 x (omega arith))))
    (λ ne. rw (not_true (S x) ne) (omega arith))

-- a column is a number of at most three digits
pub column_items_length : (S : Set) → length (column_items S) ≤ 4 * width
unfolding column_items
column_items_length S = columns_length width 0 S (omega arith)

pub line_length : (word items : List ℕ) → length (line word items) ≡ length word + length items + 1
line_length word items = rw (line_is, length-append, length-append) (omega arith)

pub verdict_line_length : (v : ℕ) → length (verdict_line v) ≤ 19
unfolding ascii
verdict_line_length v = by_cases (ℕ_discrete v 1)
    (λ e. rw (verdict_determined v e) (omega arith))
    (λ nd. by_cases (ℕ_discrete v 2) (λ e. rw (verdict_surplus v e) (omega arith)) (λ ns. rw (verdict_open v nd ns) (omega arith)))

-- a number of 32 bits has at most ten digits
pub refused_line_length : (x : ℕ) → x < 4294967296 → length (refused_line x) ≤ 19
unfolding refused_line ascii
refused_line_length x h = rw line_length (omega (arith, item_length 9 x (omega arith)))

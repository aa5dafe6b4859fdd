-- The rows of a model handed over, as they are put field after field, and how long its file is. Assumes nothing.
use Rattle.std.specs.Prelude.{ℕ, zero, suc, ◌+◌, ◌*◌, ◌-◌, ◌/◌, ◌%◌, ◌≤◌, ◌<◌, ◌≡◌, true, false, length, get_or, take, drop}
use mathlib.Core.List.{List, [], ◌∷◌, ◌++◌, flat_map, zip, zip_with}
use mathlib.Core.Option.{Option, none, some}
use Rattle.std.specs.Prelude as lent
use Rattle.std.specs.Prelude.{None, Some}
use Rattle.std.specs.Borrow.{Bor}
use Rattle.models.specs.Lent.{lent_numbers}
use Rattle.columns.specs.Columns as columns
use Rattle.columns.specs.Columns.{least}
use Rattle.columns.specs.Turns.{Least}
use Rattle.columns.specs.Words.Operations.{least_first}
use Rattle.columns.specs.Words.SetLaws.{removed_set, removed_gone}
use mathlib.Core.Logic.{◌≢◌, by_cases}
use mathlib.Core.Bool.{Bool, cond}
use native.Mathlib.Decide.{ℕ_discrete}
use Rattle.counting.specs.Bools.{not_true}
use Rattle.std.specs.Int.{w16, to_le_bytes}
use Rattle.std.proofs.Common.{ap₂, append_assoc, drop-drop, take_at, drop_at, arith, refl, sym, ap, ◌∙◌, drop_of_length-le, drop-cons, add-one, suc-mul, length-append, length-drop}
use native.Mathlib.Nat.{zero-mul, mul-le-mul, le_of_eq}
use Rattle.std.proofs.Math.Seq.{length-take-le}
use Rattle.std.proofs.lemmas.List.{get_or-take}
use Rattle.counting.specs.Sets.{Set, #}
use Rattle.counting.specs.Counts.{#-le, set_other}
use Rattle.columns.specs.declared.ColumnSet.{ColumnSet}
use Rattle.columns.specs.ColumnSets.{whole, Fits}
use Rattle.columns.specs.Words.Sets.{whole_below}
use Rattle.columns.specs.Bytes.{bytes_of}
use Rattle.columns.specs.Words.Bytes.{bytes_of_length}
use Rattle.columns.specs.Columns.{width, members, within}
use Rattle.limits.specs.Limits.{set_bytes, most_columns, most_rows}
use Rattle.format.specs.Lists.{All, rows_of}
use Rattle.format.specs.ListLaws.{first_left, none_left, all_at}
use Rattle.format.specs.Numbers.{parameter_count, picked, numbers_in, numbers_of}
use Rattle.format.specs.NumberLaws.{count_within, row_picked_length}
use Rattle.format.specs.Refusals.{head_bytes, numbers_room}
use Rattle.format.specs.TestLaws.{area_reads}
use Rattle.format.specs.File.Piece.{field_bytes, chain_enc}
use Rattle.format.specs.File.Format.{prime_tag, sizes_tag, end_tag, parameter_size, entry_bytes, prime_field, sizes_field, constant_row, parameter_row, number_field, numbered_row, and_its_numbers, numbered_rows, parameter_rows, parameter_values, number_fields_size, numbers_size, end_field, row_fields, size_fields, fields, encode, handed_over}
use Rattle.format.specs.File.Steps.{constant_bytes, parameter_bytes, number_bytes, numbered_row_bytes, numbered_bytes, rows_bytes}
use Rattle.format.specs.File.RowSizes.{parameter_size_most}
use Rattle.format.specs.File.BodyLaws.{entries_back}

-- ---- entries, two bytes each

pub two_bytes : (n : ℕ) → n < 65536 → to_le_bytes w16 n ≡ n % 256 ∷ n / 256 ∷ []
two_bytes n h = let q : n / 256 % 256 ≡ n / 256 = omega arith in rw q refl

pub entry_next : (s : List ℕ) (i : ℕ) (bs : List ℕ) → i < length s → get_or s i 0 < 65536 → bs ≡ to_le_bytes w16 (get_or s i 0) → entry_bytes (drop i s) ≡ bs ++ entry_bytes (drop (i + 1) s)
unfolding entry_bytes
entry_next s i bs h small e =
    let two : bs ≡ get_or s i 0 % 256 ∷ get_or s i 0 / 256 ∷ [] = e ∙ two_bytes (get_or s i 0) small in
    rw (two, drop-cons s i 0 h, add-one) refl

pub entries_done : (s : List ℕ) (i : ℕ) → length s ≤ i → entry_bytes (drop i s) ≡ []
unfolding entry_bytes
entries_done s i h = ap entry_bytes (drop_of_length-le s {i = i} h)

-- of a row's entries those at its parameters: sets that are alike from column c on pick the same
picked_same : (S T : Set) (c : ℕ) (row : List ℕ) → ((j : ℕ) → c ≤ j → S j ≡ T j) → picked S c row ≡ picked T c row
unfolding picked
picked_same S T c [] f = refl
picked_same S T c (k ∷ row) f = ap₂ (λ (b : Bool) (ks : List ℕ). cond b (k ∷ ks) ks) (f c (omega arith)) (picked_same S T (suc c) row (λ j h. f j (omega arith)))

-- the entry at the least column comes first
picked_first : (S T : Set) (x c : ℕ) (row : List ℕ) → c ≤ x → x - c < length row → S x ≡ true → T x ≡ false → ((j : ℕ) → j < x → S j ≡ false) → ((j : ℕ) → j ≢ x → S j ≡ T j)
    → picked S c row ≡ get_or row (x - c) 0 ∷ picked T c row
unfolding picked
picked_first S T x c [] h l there gone below same = absurd (omega arith)
picked_first S T x c (k ∷ row) h l there gone below same =
    by_cases (ℕ_discrete c x)
    (λ e.
    let z : x - c ≡ 0 = omega arith in
    let s : S c ≡ true = ap S e ∙ there in
    let t : T c ≡ false = ap T e ∙ gone in
    rw (z, s, t) (ap (λ (ks : List ℕ). k ∷ ks) (picked_same S T (suc c) row (λ j m. same j (λ q. omega arith)))))
    (λ ne.
    let m : c < x = omega arith in
    let z : x - c ≡ suc (x - suc c) = omega arith in
    let s : S c ≡ false = below c m in
    let t : T c ≡ false = sym (same c ne) ∙ s in
    rw (z, s, t) (picked_first S T x (suc c) row (omega arith) (omega arith) there gone below same))

pub picked_next : (S T : Set) (x : ℕ) (row bs : List ℕ) → Least S x T → x < length row → get_or row x 0 < 65536 → bs ≡ to_le_bytes w16 (get_or row x 0)
    → entry_bytes (picked S 0 row) ≡ bs ++ entry_bytes (picked T 0 row)
unfolding entry_bytes
picked_next S T x row bs m l small e =
    let two : bs ≡ get_or row x 0 % 256 ∷ get_or row x 0 / 256 ∷ [] = e ∙ two_bytes (get_or row x 0) small in
    let below : (j : ℕ) → j < x → S j ≡ false = λ j h. not_true _ (λ t. let n : least width S ≤ j = least_first width S j (omega (arith, m.below)) t in omega (arith, m.first)) in
    let gone : T x ≡ false = ap (λ (U : Set). U x) m.others ∙ not_true _ (λ t. removed_gone S x x t refl) in
    let same : (j : ℕ) → j ≢ x → S j ≡ T j = λ j ne. sym (ap (λ (U : Set). U j) m.others ∙ removed_set S x j ∙ set_other S x false j ne) in
    let all : picked S 0 row ≡ get_or row x 0 ∷ picked T 0 row = let z : x - 0 ≡ x = omega arith in rw z at (picked_first S T x 0 row (omega arith) (omega arith) m.there gone below same) in
    rw (two, all) refl

picked_empty : (c : ℕ) (row : List ℕ) → picked columns.none c row ≡ []
unfolding picked
picked_empty c [] = refl
picked_empty c (k ∷ row) = picked_empty (suc c) row

pub picked_done : (S : Set) (row : List ℕ) → S ≡ columns.none → entry_bytes (picked S 0 row) ≡ []
unfolding entry_bytes
picked_done S row e = rw (e, picked_empty 0 row) refl

-- ---- constant rows

pub rows_taken : (n k left : ℕ) (s x t : List ℕ) → s ≡ x ++ t → length x ≡ n → left + 1 ≡ k → flat_map (constant_bytes n) (rows_of n k s) ≡ constant_bytes n x ++ flat_map (constant_bytes n) (rows_of n left t)
unfolding flat_map rows_of
rows_taken n k left s x t e l m =
    let q : k ≡ suc left = omega arith in
    let first : take n s ≡ x = ap (take n) e ∙ take_at x t n l in
    let rest : drop n s ≡ t = ap (drop n) e ∙ drop_at x t n l in
    rw (q, first, rest) refl

pub rows_held : (n k left : ℕ) (s x t : List ℕ) → s ≡ x ++ t → length x ≡ n → left + 1 ≡ k → k * n ≤ length s → left * n ≤ length t
rows_held n k left s x t e l m h =
    let q : k ≡ suc left = omega arith in
    let j : suc left * n ≤ length s = rw q at h in
    omega (arith, suc-mul left n, ap length e, length-append x t)

-- no row is left where an area that holds those that are left is shorter than a row
pub rows_over : (n k l : ℕ) → 1 ≤ n → k * n ≤ l → (0 < k → l < n) → k ≡ 0
rows_over n zero l p h f = refl
rows_over n (suc k) l p h f = absurd (omega (arith, suc-mul k n, f (omega arith)))

pub constant_rows_done : (n k : ℕ) (s : List ℕ) → k ≡ 0 → flat_map (constant_bytes n) (rows_of n k s) ≡ []
unfolding flat_map rows_of
constant_rows_done n k s e = rw e refl

constant_bytes_length : (n : ℕ) (s : List ℕ) → n ≤ length s → length (constant_bytes n (take n s)) ≡ head_bytes + 2 * n
unfolding constant_bytes
constant_bytes_length n s h = let e = entries_back (take n s) in let l = length-take-le n s h in omega arith

constant_rows_length : (n k : ℕ) (s : List ℕ) → k * n ≤ length s → length (flat_map (constant_bytes n) (rows_of n k s)) ≡ k * (head_bytes + 2 * n)
unfolding flat_map rows_of
constant_rows_length n zero s h = sym (zero-mul (head_bytes + 2 * n))
constant_rows_length n (suc k) s h =
    let m : suc k * n ≡ k * n + n = suc-mul k n in
    let l = length-drop n s in
    let e : length (constant_bytes n (take n s)) ≡ head_bytes + 2 * n = constant_bytes_length n s (omega arith) in
    let i = constant_rows_length n k (drop n s) (omega arith) in
    let j : suc k * (head_bytes + 2 * n) ≡ k * (head_bytes + 2 * n) + (head_bytes + 2 * n) = suc-mul k (head_bytes + 2 * n) in
    rw length-append (omega arith)

-- ---- parameter rows

module _ (n : ℕ) where
  pub parameter_bytes_length : (w : ℕ) → length (parameter_bytes n w) ≡ head_bytes + parameter_size n
  unfolding parameter_bytes
  parameter_bytes_length w = omega (arith, bytes_of_length (parameter_size n) w)

  parameter_rows_length : (s : List ℕ) → length (flat_map (parameter_bytes n) s) ≡ length s * (head_bytes + parameter_size n)
  unfolding flat_map parameter_bytes
  parameter_rows_length [] = sym (zero-mul (head_bytes + parameter_size n))
  parameter_rows_length (w ∷ s) =
      let l = bytes_of_length (parameter_size n) w in
      let i = parameter_rows_length s in
      let j : suc (length s) * (head_bytes + parameter_size n) ≡ length s * (head_bytes + parameter_size n) + (head_bytes + parameter_size n) = suc-mul (length s) (head_bytes + parameter_size n) in
      rw length-append (omega arith)

-- ---- numbers

-- a row's size is the number of its parameters, and small
pub size_few : (w size : ℕ) → size ≡ # width (members w) → size ≤ width
size_few w size e = omega (arith, e, #-le width (members w))

pub size_is : {set : ColumnSet} (n size : ℕ) → Fits set → within n (whole set) ≡ true → size ≡ # width (members (whole set)) → size ≡ parameter_count n (whole set)
size_is {set} n size f h e = e ∙ count_within n (whole set) (whole_below set f) h

-- the row that is numbered next has no parameter at column n or later
pub row_within : (n b r : ℕ) (ws : List ℕ) → r < b → b ≤ length ws → All (λ w. within n w ≡ true) (take b ws) → within n (get_or ws r 0) ≡ true
row_within n b r ws l h v = rw (get_or-take b ws r 0 l) at (all_at (λ w. within n w ≡ true) (take b ws) 0 v r (omega (arith, length-take-le b ws h)))

-- rows with their numbers, as they are put
module _ (n : ℕ) where
  pub number_bytes_length : (w : ℕ) (row : List ℕ) → length (number_bytes n w row) ≡ head_bytes + length (entry_bytes (picked (members w) 0 row))
  unfolding number_bytes
  number_bytes_length w row = omega arith

  numbered_length : (ws ks : List ℕ) → length ws * n ≤ length ks → length (numbered_bytes n ws ks) ≡ length ws * (head_bytes + parameter_size n) + number_fields_size n ws
  unfolding numbered_bytes numbered_row_bytes number_fields_size
  numbered_length [] ks l = omega (arith, zero-mul (head_bytes + parameter_size n))
  numbered_length (w ∷ ws) ks l =
      let m : suc (length ws) * n ≡ length ws * n + n = suc-mul (length ws) n in
      let j : suc (length ws) * (head_bytes + parameter_size n) ≡ length ws * (head_bytes + parameter_size n) + (head_bytes + parameter_size n) = suc-mul (length ws) (head_bytes + parameter_size n) in
      let i = numbered_length ws (drop n ks) (rw length-drop (omega arith)) in
      let c = row_picked_length n w ks (omega arith) in
      let e = (entries_back (picked (members w) 0 (take n ks))).0 in
      let p = parameter_bytes_length n w in
      let q = number_bytes_length w (take n ks) in
      simp length-append (omega arith)

  -- as the model's fields have them
  numbered_fields : (b : ℕ) (before ws ks : List ℕ) → chain_enc (numbered_row n) and_its_numbers before (zip ws (numbers_in n ws ks)) ≡ numbered_bytes n ws ks
  unfolding zip zip_with numbers_in parameter_row number_field numbered_bytes numbered_row_bytes parameter_bytes number_bytes
  numbered_fields b before [] ks = refl
  numbered_fields b before (w ∷ ws) ks =
      ap (λ (t : List ℕ). numbered_row_bytes n w (take n ks) ++ t) (numbered_fields b (before ++ picked (members w) 0 (take n ks)) ws (drop n ks))

  rows_fields : (b : ℕ) (ws : List ℕ) (ns : Option (List ℕ)) → (parameter_rows n b).enc (parameter_values ws (numbers_of n ws ns)) ≡ rows_bytes n ws ns
  unfolding parameter_rows numbered_rows numbers_of rows_bytes parameter_row parameter_bytes numbered_bytes flat_map
  rows_fields b [] none = refl
  rows_fields b [] (some ks) = refl
  rows_fields b (w ∷ ws) none = refl
  rows_fields b (w ∷ ws) (some ks) = numbered_fields b [] (w ∷ ws) ks

  rows_bytes_length : (ws : List ℕ) (ns : Option (List ℕ)) → numbers_room (length ws * n) ns ≡ true → length (rows_bytes n ws ns) ≡ length ws * (head_bytes + parameter_size n) + numbers_size n ws ns
  unfolding rows_bytes numbers_room numbers_size
  rows_bytes_length ws none r = parameter_rows_length n ws ∙ omega arith
  rows_bytes_length ws (some ks) r = numbered_length ws ks ((area_reads _ _).0 r)

-- what is left of the numbers behind k of them, and those of row r
abbrev pub numbers_from : ℕ → Option (List ℕ) → Option (List ℕ)
numbers_from k none = none
numbers_from k (some ks) = some (drop k ks)

abbrev pub own_numbers : (n w r : ℕ) → Option (List ℕ) → List ℕ
own_numbers n w r none = []
own_numbers n w r (some ks) = number_bytes n w (take n (drop (r * n) ks))

module _ (n b r : ℕ) (ws : List ℕ) where
  -- row r is the first of those that are left when r are put
  pub rows_next : (ns : Option (List ℕ)) → r < b → b ≤ length ws
      → rows_bytes n (drop r (take b ws)) (numbers_from (r * n) ns)
      ≡ parameter_bytes n (get_or ws r 0) ++ (own_numbers n (get_or ws r 0) r ns ++ rows_bytes n (drop (r + 1) (take b ws)) (numbers_from ((r + 1) * n) ns))
  unfolding rows_bytes numbered_bytes numbered_row_bytes flat_map
  rows_next none l h = rw (first_left b r ws l (omega arith)) refl
  rows_next (some ks) l h =
      let m : (r + 1) * n ≡ r * n + n = rw add-one (suc-mul r n) in
      let behind : drop n (drop (r * n) ks) ≡ drop ((r + 1) * n) ks = drop-drop n (r * n) ks ∙ ap (λ (k : ℕ). drop k ks) (sym m) in
      rw (first_left b r ws l (omega arith), append_assoc, behind) refl

  pub rows_done : (ns : Option (List ℕ)) → b ≤ r → rows_bytes n (drop r (take b ws)) (numbers_from (r * n) ns) ≡ []
  unfolding rows_bytes numbered_bytes flat_map
  rows_done none h = rw (none_left b r ws (omega arith)) refl
  rows_done (some ks) h = rw (none_left b r ws (omega arith)) refl

pub rows_first : (n : ℕ) (ws : List ℕ) (ns : Option (List ℕ)) → rows_bytes n ws (numbers_from (0 * n) ns) ≡ rows_bytes n ws ns
rows_first n ws none = refl
rows_first n ws (some ks) = ap (λ (k : ℕ). rows_bytes n ws (some (drop k ks))) (zero-mul n)

-- the entries of row r within those of b rows
pub row_end : (n b r : ℕ) → r < b → (r + 1) * n ≤ b * n
row_end n b r h = mul-le-mul (let m : r + 1 ≤ b = omega arith in m) (le_of_eq refl)

-- as a slice of the numbers that are lent
pub own_row : (n b r : ℕ) (ks : List ℕ) → r < b → b * n ≤ length ks → ((r + 1) * n - r * n ≡ n) × (length (take n (drop (r * n) ks)) ≡ n)
own_row n b r ks h l =
    let m : (r + 1) * n ≡ r * n + n = rw add-one (suc-mul r n) in
    let e = row_end n b r h in
    (omega arith, length-take-le n (drop (r * n) ks) (rw length-drop (omega arith)))

pub own_none : (n w r : ℕ) (o : lent.Option (Bor (List ℕ))) → ((x : Bor (List ℕ)) → o ≡ Some x → ⊥) → own_numbers n w r (lent_numbers o) ≡ []
own_none n w r None h = refl
own_none n w r (Some x) h = absurd (h x refl)

-- ---- the whole file

pub handed_over_fields : (p n a b : ℕ) (cs ws : List ℕ) (ns : Option (List ℕ))
    → encode (handed_over p n a b cs ws ns)
    ≡ field_bytes prime_tag 2 (bytes_of 2 p) ++ (field_bytes sizes_tag 3 (n ∷ a ∷ b ∷ []) ++ (flat_map (constant_bytes n) (rows_of n a cs) ++ (rows_bytes n (take b ws) ns ++ field_bytes end_tag 0 [])))
unfolding encode fields size_fields row_fields prime_field sizes_field constant_row end_field handed_over constant_bytes
handed_over_fields p n a b cs ws ns =
    ap (λ (t : List ℕ). field_bytes prime_tag 2 (bytes_of 2 p) ++ (field_bytes sizes_tag 3 (n ∷ a ∷ b ∷ []) ++ (flat_map (constant_bytes n) (rows_of n a cs) ++ (t ++ field_bytes end_tag 0 [])))) (rows_fields n b (take b ws) ns)

-- as the fields add up
pub handed_over_length : (p n a b : ℕ) (cs ws : List ℕ) (ns : Option (List ℕ)) → a * n ≤ length cs → b ≤ length ws → numbers_room (b * n) ns ≡ true
    → length (encode (handed_over p n a b cs ws ns)) ≡ (head_bytes + 2) + (head_bytes + 3) + a * (head_bytes + 2 * n) + (b * (head_bytes + parameter_size n) + numbers_size n (take b ws) ns) + head_bytes
handed_over_length p n a b cs ws ns i j k =
    let r = constant_rows_length n a cs i in
    let l = length-take-le b ws j in
    let m : length (rows_bytes n (take b ws) ns) ≡ b * (head_bytes + parameter_size n) + numbers_size n (take b ws) ns = rows_bytes_length n (take b ws) ns (ap (λ (h : ℕ). numbers_room (h * n) ns) l ∙ k)
    ∙ ap (λ (h : ℕ). h * (head_bytes + parameter_size n) + numbers_size n (take b ws) ns) l in
    ap length (handed_over_fields p n a b cs ws ns) ∙ simp length-append (omega arith)

-- ---- the fields of rows are not many bytes

pub constants_few : (n a : ℕ) → n ≤ most_columns → a ≤ most_rows → a * (head_bytes + 2 * n) ≤ most_rows * (head_bytes + 2 * most_columns)
constants_few n a h l = mul-le-mul l (let m : head_bytes + 2 * n ≤ head_bytes + 2 * most_columns = omega arith in m)

pub parameters_few : (n b size : ℕ) → b ≤ most_rows → size ≡ parameter_size n → b * (head_bytes + size) ≤ most_rows * (head_bytes + set_bytes)
parameters_few n b size l e = mul-le-mul l (let m : head_bytes + size ≤ head_bytes + set_bytes = omega (arith, e, parameter_size_most n) in m)

-- What is written: bytes, how many, and field after field. Assumes nothing.
use Prim.Native.Nat.{ℕ, zero, suc, ◌+◌, ◌*◌, ◌/◌, ◌^◌, ◌≤◌, ◌<◌}
use Rattle.std.specs.Prelude.{◌≡◌, true}
use Rattle.std.proofs.Math.Path.{refl}
use Rattle.std.proofs.Common.{sym, ap, ◌∙◌}
use Rattle.std.proofs.Math.Option.{Option, none, some}
use mathlib.Core.List.{List, [], ◌∷◌, ◌++◌, flat_map, zip, zip_with}
use native.Mathlib.Omega.{arith}
use Rattle.std.proofs.Math.Nat.{suc-mul, zero-mul}
use Rattle.std.proofs.Math.ListN.{length, length-append}
use Rattle.counting.specs.Counts.{#-le}
use Rattle.limits.specs.Limits.{most_columns}
use Rattle.columns.specs.Columns.{width, members, within}
use Rattle.columns.specs.Bytes.{bytes_of}
use Rattle.columns.specs.Words.Bytes.{AreBytes, bytes_of_length}
use Rattle.format.specs.Lists.{All}
use Rattle.format.specs.Numbers.{parameter_count}
use Rattle.format.specs.Refusals.{head_bytes}
use Rattle.format.specs.File.Piece.{Body, field, chain_enc}
use Rattle.format.specs.File.Format.{FileModel, ValidNumbers, ValidModel, narrow_columns, number_fields_size, numbers_size, number_tag, number_body, number_field, numbered_row, and_its_numbers, numbered_rows, parameter_rows, parameter_values, prime_tag, sizes_tag, constant_tag, parameter_tag, end_tag, parameter_size, prime_field, sizes_field, entry_bytes, prime_body, sizes_body, constant_body, parameter_body, end_body, constant_row, parameter_row, end_field, row_fields, size_fields, fields, encode}
use Rattle.format.specs.File.RowSizes.{narrow_size, wide_size, parameter_size_most}
use Rattle.format.specs.File.BodyLaws.{entries_back}

-- ---- a file is made of bytes

bytes_append : (u t : List ℕ) → AreBytes u → AreBytes t → AreBytes (u ++ t)
bytes_append [] t h k i = k i
bytes_append (x ∷ u) t h k zero = h 0
bytes_append (x ∷ u) t h k (suc i) = bytes_append u t (λ j. h (suc j)) k i

bytes_of_are_bytes : (k w : ℕ) → AreBytes (bytes_of k w)
bytes_of_are_bytes zero w i = omega arith
bytes_of_are_bytes (suc k) w zero = omega arith
bytes_of_are_bytes (suc k) w (suc i) = bytes_of_are_bytes k (w / 256) i

bytes_entries : (p : ℕ) (cs : List ℕ) → p ≤ 65536 → All (λ c. c < p) cs → AreBytes (entry_bytes cs)
unfolding entry_bytes
bytes_entries p [] h v i = omega arith
bytes_entries p (c ∷ cs) h v zero = omega arith
bytes_entries p (c ∷ cs) h v (suc zero) = let k = v.0 in omega arith
bytes_entries p (c ∷ cs) h v (suc (suc i)) = bytes_entries p cs h v.1 i

bytes_field : {A : Type 0} (tag : ℕ) (B : Body A) (x : A) → tag < 256 → B.size < 65536 → AreBytes (B.enc x) → AreBytes ((field tag B).enc x)
bytes_field tag B x h k b zero = h
bytes_field tag B x h k b (suc zero) = omega arith
bytes_field tag B x h k b (suc (suc zero)) = omega arith
bytes_field tag B x h k b (suc (suc (suc i))) = b i

bytes_many : {A : Type 0} {Is : A → Type 0} (f : A → List ℕ) → ((x : A) → Is x → AreBytes (f x)) → (xs : List A) → All Is xs → AreBytes (flat_map f xs)
unfolding flat_map
bytes_many f h [] v i = omega arith
bytes_many f h (x ∷ xs) v i = bytes_append (f x) (flat_map f xs) (h x v.0) (bytes_many f h xs v.1) i

bytes_entry_list : (ks : List ℕ) → All (λ k. k < 65536) ks → AreBytes (entry_bytes ks)
bytes_entry_list ks v = bytes_entries 65536 ks (omega arith) v

module _ (n : ℕ) (k : n ≤ most_columns) where
  count_small : (w : ℕ) → 2 * parameter_count n w < 65536
  unfolding parameter_count
  count_small w = omega (arith, #-le n (members w))

  bytes_row : (w : ℕ) → AreBytes ((field parameter_tag (parameter_body n)).enc w)
  bytes_row w = bytes_field parameter_tag (parameter_body n) w (omega arith) (omega (arith, parameter_size_most n)) (bytes_of_are_bytes (parameter_size n) w)

  bytes_numbered : (before ws : List ℕ) (kss : List (List ℕ)) → All (λ x. (length x.1 ≡ parameter_count n x.0) × All (λ k. k < 65536) x.1) (zip ws kss)
      → AreBytes (chain_enc (numbered_row n) and_its_numbers before (zip ws kss))
  unfolding zip zip_with parameter_row number_field
  bytes_numbered before [] kss v = λ i. omega arith
  bytes_numbered before (w ∷ ws) [] v = λ i. omega arith
  bytes_numbered before (w ∷ ws) (ks ∷ kss) v =
      let row = (field parameter_tag (parameter_body n)).enc w in
      let own = (field number_tag (number_body (parameter_count n w) before)).enc ks in
      bytes_append (row ++ own) _
      (bytes_append row own (bytes_row w) (bytes_field number_tag (number_body (parameter_count n w) before) ks (omega arith) (count_small w) (bytes_entry_list ks v.0.1)))
      (bytes_numbered (before ++ ks) ws kss v.1)

  bytes_rows : (b : ℕ) (ws : List ℕ) (ns : Option (List (List ℕ))) → All (λ w. (w < 2 ^ width) × (within n w ≡ true)) ws → ((kss : List (List ℕ)) → ns ≡ some kss → ValidNumbers n ws kss)
      → AreBytes ((parameter_rows n b).enc (parameter_values ws ns))
  unfolding parameter_rows numbered_rows parameter_row
  bytes_rows b ws none v u = bytes_many (field parameter_tag (parameter_body n)).enc (λ w _. bytes_row w) ws v
  bytes_rows b ws (some kss) v u = bytes_numbered [] ws kss (u kss refl).rows_numbered

pub encode_bytes : (m : FileModel) → ValidModel m → AreBytes (encode m)
unfolding encode fields size_fields row_fields prime_field sizes_field constant_row end_field
encode_bytes m v =
    let row = field constant_tag (constant_body m.p m.n) in
    let f₁ = (field prime_tag prime_body).enc m.p in
    let f₂ = (field sizes_tag sizes_body).enc (m.n, m.a, m.b) in
    let f₃ = flat_map row.enc m.constants in
    let f₄ = (parameter_rows m.n m.b).enc (parameter_values m.parameters m.numbers) in
    let f₅ = (field end_tag end_body).enc tt in
    bytes_append f₁ (f₂ ++ (f₃ ++ (f₄ ++ f₅))) (bytes_field prime_tag prime_body m.p (omega arith) (omega arith) (bytes_of_are_bytes 2 m.p))
    (bytes_append f₂ (f₃ ++ (f₄ ++ f₅)) (bytes_field sizes_tag sizes_body (m.n, m.a, m.b) (omega arith) (omega arith) sizes)
    (bytes_append f₃ (f₄ ++ f₅) (bytes_many row.enc (λ r w. bytes_field constant_tag (constant_body m.p m.n) r (omega arith) (omega (arith, v.n_most)) (bytes_entries m.p r (omega (arith, v.p_most)) w.1)) m.constants v.constants_below)
    (bytes_append f₄ f₅ (bytes_rows m.n v.n_most m.b m.parameters m.numbers v.parameters_within v.numbers_are)
    (bytes_field end_tag end_body tt (omega arith) (omega arith) (λ i. omega arith)))))
  where
    sizes : AreBytes (m.n ∷ m.a ∷ m.b ∷ [])
    sizes zero = omega (arith, v.n_most)
    sizes (suc zero) = omega (arith, v.a_most)
    sizes (suc (suc zero)) = omega (arith, v.b_most)
    sizes (suc (suc (suc i))) = omega arith

-- ---- how long it is

length_many : {A : Type 0} {Is : A → Type 0} (f : A → List ℕ) (k : ℕ) → ((x : A) → Is x → length (f x) ≡ k) → (xs : List A) → All Is xs → length (flat_map f xs) ≡ length xs * k
unfolding flat_map
length_many f k h [] v = sym (zero-mul k)
length_many f k h (x ∷ xs) v =
    let e = h x v.0 in
    let i = length_many f k h xs v.1 in
    let m : suc (length xs) * k ≡ length xs * k + k = suc-mul (length xs) k in
    rw length-append (omega arith)

-- the same where each is written as long, whatever it is
pub length_each : {A : Type 0} (f : A → List ℕ) (k : ℕ) → ((x : A) → length (f x) ≡ k) → (xs : List A) → length (flat_map f xs) ≡ length xs * k
length_each {A} f k h xs = length_many {Is = λ x. Unit {0}} f k (λ x _. h x) xs (every xs)
  where
    every : (xs : List A) → All (λ x. Unit {0}) xs
    every [] = tt
    every (x ∷ xs) = (tt, every xs)

-- the constant rows
pub constants_length : (m : FileModel) → ValidModel m → length (flat_map (constant_row m.p m.n).enc m.constants) ≡ m.a * (head_bytes + 2 * m.n)
unfolding constant_row
constants_length m v =
    length_many (constant_row m.p m.n).enc (head_bytes + 2 * m.n) (λ r w. (let e = entries_back r in let l = w.0 in omega arith)) m.constants v.constants_below
    ∙ ap (λ (k : ℕ). k * (head_bytes + 2 * m.n)) v.constant_rows

module _ (n : ℕ) where
  numbered_length : (before ws : List ℕ) (kss : List (List ℕ)) → length kss ≡ length ws
      → All (λ x. (length x.1 ≡ parameter_count n x.0) × All (λ k. k < 65536) x.1) (zip ws kss)
      → length (chain_enc (numbered_row n) and_its_numbers before (zip ws kss)) ≡ length ws * (head_bytes + parameter_size n) + number_fields_size n ws
  unfolding zip zip_with parameter_row number_field number_fields_size
  numbered_length before [] kss l v = omega (arith, zero-mul (head_bytes + parameter_size n))
  numbered_length before (w ∷ ws) [] l v = absurd (omega arith)
  numbered_length before (w ∷ ws) (ks ∷ kss) l v =
      let i = numbered_length (before ++ ks) ws kss (omega arith) v.1 in
      let j = bytes_of_length (parameter_size n) w in
      let e = (entries_back ks).0 in
      let c = v.0.0 in
      let m : suc (length ws) * (head_bytes + parameter_size n) ≡ length ws * (head_bytes + parameter_size n) + (head_bytes + parameter_size n) = suc-mul (length ws) (head_bytes + parameter_size n) in
      simp length-append (omega arith)

  rows_length : (b : ℕ) (ws : List ℕ) (ns : Option (List (List ℕ))) → ((kss : List (List ℕ)) → ns ≡ some kss → ValidNumbers n ws kss)
      → length ((parameter_rows n b).enc (parameter_values ws ns)) ≡ length ws * (head_bytes + parameter_size n) + numbers_size n ws ns
  unfolding parameter_rows numbered_rows parameter_row numbers_size
  rows_length b ws none u =
      length_each (field parameter_tag (parameter_body n)).enc (head_bytes + parameter_size n) (λ w. omega (arith, bytes_of_length (parameter_size n) w)) ws ∙ omega arith
  rows_length b ws (some kss) u = let g = u kss refl in numbered_length [] ws kss g.number_rows g.rows_numbered

-- the length is 14 + a × (3 + 2n) + b × (3 + a parameter row's size), and the fields of numbers
pub file_length : (m : FileModel) → ValidModel m
    → length (encode m) ≡ 14 + m.a * (3 + 2 * m.n) + m.b * (3 + parameter_size m.n) + numbers_size m.n m.parameters m.numbers
unfolding encode fields size_fields row_fields prime_field sizes_field end_field
file_length m v =
    let r = constants_length m v in
    let s = rows_length m.n m.b m.parameters m.numbers v.numbers_are in
    let sb : length m.parameters * (head_bytes + parameter_size m.n) ≡ m.b * (head_bytes + parameter_size m.n) = ap (λ (k : ℕ). k * (head_bytes + parameter_size m.n)) v.parameter_rows in
    simp length-append (omega arith)

-- these are at most b × (3 + 2n)
fields_size_most : (n : ℕ) (ws : List ℕ) → number_fields_size n ws ≤ length ws * (3 + 2 * n)
unfolding number_fields_size parameter_count
fields_size_most n [] = omega arith
fields_size_most n (w ∷ ws) =
    let i = fields_size_most n ws in
    let m : suc (length ws) * (3 + 2 * n) ≡ length ws * (3 + 2 * n) + (3 + 2 * n) = suc-mul (length ws) (3 + 2 * n) in
    omega (arith, #-le n (members w))

pub numbers_size_most : {A : Type 0} (n : ℕ) (ws : List ℕ) (ns : Option A) → numbers_size n ws ns ≤ length ws * (3 + 2 * n)
unfolding numbers_size
numbers_size_most n ws none = omega arith
numbers_size_most n ws (some x) = fields_size_most n ws

-- document 01: 14 + a × (3 + 2n) + 11 × b, up to 64 columns
pub narrow_length : (m : FileModel) → ValidModel m → m.n ≤ narrow_columns → length (encode m) ≡ 14 + m.a * (3 + 2 * m.n) + 11 * m.b + numbers_size m.n m.parameters m.numbers
narrow_length m v h = file_length m v ∙ rw (narrow_size m.n h) (omega arith)

-- and above 14 + a × (3 + 2n) + 15 × b
pub wide_length : (m : FileModel) → ValidModel m → narrow_columns < m.n → length (encode m) ≡ 14 + m.a * (3 + 2 * m.n) + 15 * m.b + numbers_size m.n m.parameters m.numbers
wide_length m v h = file_length m v ∙ rw (wide_size m.n h) (omega arith)

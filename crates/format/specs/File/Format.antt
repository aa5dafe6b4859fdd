-- The file of a model, by document 01, "The file", and document 02, E4 and E13: its fields in their order, and how a file is judged, read, written and looked up.
-- Definitions only.
use Rattle.std.specs.Prelude.{ℕ, ◌+◌, ◌-◌, ◌*◌, ◌/◌, ◌%◌, ◌^◌, ◌≤◌, ◌<◌, ◌≡◌, Bool, true, ◌&&◌, cond, ◌⊎◌, Result, IfOk, leb, ltb, eqb, length, get_or, take, drop}
use Rattle.std.proofs.Common.{inl, inr}
use mathlib.Core.List.{List, [], ◌∷◌, ◌++◌, map, flatten, zip}
use Rattle.std.proofs.Math.Option.{Option, none, some}
use Rattle.residue.specs.Arithmetic.{Prime}
use Rattle.columns.specs.Bytes.{number, bytes_of}
use Rattle.columns.specs.Columns.{width, within}
use Rattle.format.specs.declared.header.Header.{Header}
use Rattle.format.specs.declared.refusals.Refusal.{Refusal}
use Rattle.format.specs.Refused.{refusal_of}
use Rattle.format.specs.Lists.{All, rows_of, over}
use Rattle.format.specs.Numbers.{once, parameter_count, numbers_of, number_entries, is_numbered}
use Rattle.limits.specs.Limits.{largest_prime, most_columns, most_rows, set_bytes}
use Rattle.format.specs.Refusals.{Tests, head_bytes, unless, ◌then◌, first_refusal, where_accepted, not_prime, sizes_beyond, constant_beyond, parameter_beyond, number_twice, area_short, row_beyond, prime_test, size_test, constant_test, area_test, row_test, model_tests}
use Rattle.format.specs.File.Piece.{Body, Piece, field, many, chain, either, seq, closed}

-- a model as a file holds it: a parameter row is the number that its bytes show; where the model is numbered, each has the numbers of its parameters by
-- ascending column
pub record FileModel : Type 0 where
  pub p : ℕ
  pub n : ℕ
  pub a : ℕ
  pub b : ℕ
  pub constants : List (List ℕ)
  pub parameters : List ℕ
  pub numbers : Option (List (List ℕ))

-- each row has a number below 65,536 for each of its parameters, no number stands twice, and there is a row that has them
pub record ValidNumbers (n : ℕ) (ws : List ℕ) (kss : List (List ℕ)) : Type 0 where
  pub some_row : 0 < length ws
  pub number_rows : length kss ≡ length ws
  pub rows_numbered : All (λ x. (length x.1 ≡ parameter_count n x.0) × All (λ k. k < 65536) x.1) (zip ws kss)
  pub all_once : once (flatten kss) ≡ true

-- the model is of the stated form
pub record ValidModel (m : FileModel) : Type 0 where
  pub prime : Prime m.p
  pub p_most : m.p ≤ largest_prime
  pub n_least : 1 ≤ m.n
  pub n_most : m.n ≤ most_columns
  pub a_most : m.a ≤ most_rows
  pub b_most : m.b ≤ most_rows
  pub constant_rows : length m.constants ≡ m.a
  pub constants_below : All (λ r. (length r ≡ m.n) × All (λ c. c < m.p) r) m.constants
  pub parameter_rows : length m.parameters ≡ m.b
  pub parameters_within : All (λ w. (w < 2 ^ width) × (within m.n w ≡ true)) m.parameters
  pub numbers_are : (kss : List (List ℕ)) → m.numbers ≡ some kss → ValidNumbers m.n m.parameters kss

-- ---- tags, and how long a parameter row's body is, by n, and the fields of numbers

abbrev pub prime_tag : ℕ
prime_tag = 1

abbrev pub sizes_tag : ℕ
sizes_tag = 2

abbrev pub constant_tag : ℕ
constant_tag = 3

abbrev pub parameter_tag : ℕ
parameter_tag = 4

abbrev pub end_tag : ℕ
end_tag = 5

abbrev pub number_tag : ℕ
number_tag = 6

-- up to so many columns it has so many bytes, and above as many as show a set
abbrev pub narrow_columns : ℕ
narrow_columns = 64

abbrev pub narrow_bytes : ℕ
narrow_bytes = 8

unfoldable pub parameter_size : ℕ → ℕ
parameter_size n = cond (leb n narrow_columns) narrow_bytes set_bytes

-- how many bytes the fields of numbers of these rows take
unfoldable pub number_fields_size : (n : ℕ) → List ℕ → ℕ
number_fields_size n [] = 0
number_fields_size n (w ∷ ws) = head_bytes + 2 * parameter_count n w + number_fields_size n ws

-- none where the model is unnumbered
unfoldable pub numbers_size : {A : Type 0} → (n : ℕ) → List ℕ → Option A → ℕ
numbers_size n ws none = 0
numbers_size n ws (some x) = number_fields_size n ws

-- ---- the bodies

-- two bytes an entry
unfoldable pub entries : List ℕ → List ℕ
entries [] = []
entries (x ∷ []) = []
entries (x ∷ y ∷ s) = (x + 256 * y) ∷ entries s

unfoldable pub entry_bytes : List ℕ → List ℕ
entry_bytes [] = []
entry_bytes (c ∷ cs) = c % 256 ∷ c / 256 ∷ entry_bytes cs

abbrev pub prime_body : Body ℕ
prime_body = record { size = 2; tests = λ b. unless (prime_test (number b)) not_prime; dec = number; enc = bytes_of 2 }

abbrev pub sizes_body : Body (ℕ × ℕ × ℕ)
sizes_body =
    record {
      size = 3;
      tests = λ b. unless (size_test (get_or b 0 0) (get_or b 1 0) (get_or b 2 0)) sizes_beyond;
      dec = λ b. (get_or b 0 0, get_or b 1 0, get_or b 2 0);
      enc = λ z. z.0 ∷ z.1 ∷ z.2 ∷ [];
    }

abbrev pub constant_body : ℕ → ℕ → Body (List ℕ)
constant_body p n =
    record { size = 2 * n; tests = λ b. unless (constant_test p (entries b)) constant_beyond; dec = entries; enc = entry_bytes }

abbrev pub parameter_body : ℕ → Body ℕ
parameter_body n =
    record { size = parameter_size n; tests = λ b. unless (within n (number b)) parameter_beyond; dec = number; enc = bytes_of (parameter_size n) }

-- the numbers of k parameters, after those of the fields before
abbrev pub number_body : ℕ → List ℕ → Body (List ℕ)
number_body k before =
    record { size = 2 * k; tests = λ b. unless (once (before ++ entries b)) number_twice; dec = entries; enc = entry_bytes }

abbrev pub end_body : Body (Unit {0})
end_body = record { size = 0; tests = λ b. []; dec = λ b. tt; enc = λ x. [] }

-- ---- the fields, in their order

unfoldable pub prime_field : Piece ℕ
prime_field = field prime_tag prime_body

unfoldable pub sizes_field : Piece (ℕ × ℕ × ℕ)
sizes_field = field sizes_tag sizes_body

unfoldable pub constant_row : ℕ → ℕ → Piece (List ℕ)
constant_row p n = field constant_tag (constant_body p n)

unfoldable pub parameter_row : ℕ → Piece ℕ
parameter_row n = field parameter_tag (parameter_body n)

unfoldable pub number_field : ℕ → List ℕ → Piece (List ℕ)
number_field k before = field number_tag (number_body k before)

unfoldable pub end_field : Piece (Unit {0})
end_field = field end_tag end_body

-- a parameter row and its numbers, after the numbers before; b of them
abbrev pub numbered_row : ℕ → List ℕ → Piece (ℕ × List ℕ)
numbered_row n before = seq (parameter_row n) (λ w. number_field (parameter_count n w) before)

abbrev pub and_its_numbers : List ℕ → ℕ × List ℕ → List ℕ
and_its_numbers before x = before ++ x.1

unfoldable pub numbered_rows : ℕ → ℕ → Piece (List (ℕ × List ℕ))
numbered_rows n b = chain b [] (numbered_row n) and_its_numbers

-- the field after the first parameter row decides: the tag of numbers there means a numbered model; without parameter rows it is unnumbered
unfoldable pub numbered_test : ℕ → ℕ → List ℕ → Bool
numbered_test n b s = ltb 0 b && eqb (get_or ((parameter_row n).rest s) 0 0) number_tag

abbrev pub ParameterRows : Type 0
ParameterRows = List ℕ ⊎ List (ℕ × List ℕ)

unfoldable pub parameter_rows : ℕ → ℕ → Piece ParameterRows
parameter_rows n b = either (numbered_test n b) (many b (parameter_row n)) (numbered_rows n b)

abbrev pub Rows : Type 0
Rows = List (List ℕ) × (ParameterRows × Unit {0})

-- from tag 3 on, by p and by n, a, b
unfoldable pub row_fields : ℕ → ℕ × ℕ × ℕ → Piece Rows
row_fields p z =
    seq (many z.1 (constant_row p z.0))
    (λ _. seq (parameter_rows z.0 z.2)
    (λ _. end_field))

-- from tag 2 on, by p
unfoldable pub size_fields : ℕ → Piece ((ℕ × ℕ × ℕ) × Rows)
size_fields p = seq sizes_field (λ z. row_fields p z)

unfoldable pub fields : Piece (ℕ × ((ℕ × ℕ × ℕ) × Rows))
fields = seq prime_field (λ p. size_fields p)

-- the values of the fields: p; n, a, b; the rows
abbrev pub Values : Type 0
Values = ℕ × ((ℕ × ℕ × ℕ) × Rows)

-- the model as the fields' values,
abbrev pub size_values : FileModel → ℕ × ℕ × ℕ
size_values m = (m.n, m.a, m.b)

abbrev pub parameter_values : List ℕ → Option (List (List ℕ)) → ParameterRows
parameter_values ws none = inl ws
parameter_values ws (some kss) = inr (zip ws kss)

abbrev pub row_values : FileModel → Rows
row_values m = (m.constants, (parameter_values m.parameters m.numbers, tt))

abbrev pub values : FileModel → Values
values m = (m.p, (size_values m, row_values m))

-- and back
abbrev pub sizes_of_values : Values → ℕ × ℕ × ℕ
sizes_of_values x = x.1.0

abbrev pub rows_of_values : Values → Rows
rows_of_values x = x.1.1

abbrev pub parameters_of_values : ParameterRows → List ℕ
parameters_of_values (inl ws) = ws
parameters_of_values (inr xs) = map (λ x. x.0) xs

abbrev pub numbers_of_values : ParameterRows → Option (List (List ℕ))
numbers_of_values (inl ws) = none
numbers_of_values (inr xs) = some (map (λ x. x.1) xs)

abbrev pub of_values : Values → FileModel
of_values x =
    record {
      p = x.0;
      n = (sizes_of_values x).0;
      a = (sizes_of_values x).1;
      b = (sizes_of_values x).2;
      constants = (rows_of_values x).0;
      parameters = parameters_of_values (rows_of_values x).1.0;
      numbers = numbers_of_values (rows_of_values x).1.0;
    }

-- ---- judged, read and written

-- the refusal of a file, or 0
unfoldable pub judge : List ℕ → ℕ
judge s = first_refusal (closed fields s)

unfoldable pub decode : List ℕ → FileModel
decode s = of_values (fields.dec s)

-- what a file says before its rows, with its refusal
pub record Said : Type 0 where
  pub refusal : ℕ
  pub p : ℕ
  pub n : ℕ
  pub a : ℕ
  pub b : ℕ

-- all are 0 but the refusal where the file is refused
unfoldable pub refused_header : ℕ → Said
refused_header k = record { refusal = k; p = 0; n = 0; a = 0; b = 0 }

unfoldable pub header : List ℕ → Said
header s =
    where_accepted (judge s) (record { refusal = 0; p = (decode s).p; n = (decode s).n; a = (decode s).a; b = (decode s).b }) (refused_header (judge s))

-- what a call gives of it: the refusal, or p, n, a, b
pub record Says (said : Said) (h : Header) : Type 0 where
  pub p_is : h.p ≡ said.p
  pub n_is : h.n ≡ said.n
  pub a_is : h.a ≡ said.a
  pub b_is : h.b ≡ said.b

pub record HeaderRead (said : Said) (r : Result Header Refusal) : Type 0 where
  pub refusal_is : refusal_of r ≡ said.refusal
  pub given : IfOk r (Says said)

unfoldable pub encode : FileModel → List ℕ
encode m = fields.enc (values m)

-- ---- read into lent areas: the constants row after row, the parameter rows as numbers, and, where it is numbered, their numbers row after row

-- the tests of the areas of constants and of parameter rows
unfoldable pub area_tests : (m : FileModel) (cs ws : List ℕ) → Tests
area_tests m cs ws =
    unless (area_test (m.a * m.n) (length cs)) area_short
    then unless (area_test m.b (length ws)) area_short

-- how long an area its numbers need
unfoldable pub number_room : FileModel → ℕ
number_room m = cond (is_numbered m.numbers) (m.b * m.n) 0

-- what is read: nothing where it is refused
abbrev pub no_model : FileModel
no_model = record { p = 0; n = 0; a = 0; b = 0; constants = []; parameters = []; numbers = none }

unfoldable pub read_model : ℕ → List ℕ → FileModel
read_model r s = where_accepted r (decode s) no_model

-- the numbers returned, and the areas of the constants and of the parameter rows afterwards
pub record RowsRead (due : ℕ) (s cs ws : List ℕ) (refusal p n a b : ℕ) (numbered : Bool) (cs' ws' : List ℕ) : Type 0 where
  pub refusal_is : refusal ≡ due
  pub p_is : p ≡ (read_model due s).p
  pub n_is : n ≡ (read_model due s).n
  pub a_is : a ≡ (read_model due s).a
  pub b_is : b ≡ (read_model due s).b
  pub numbered_is : numbered ≡ is_numbered (read_model due s).numbers
  pub constants_are : cs' ≡ over (flatten (read_model due s).constants) cs
  pub parameters_are : ws' ≡ over (read_model due s).parameters ws

-- without the numbers,
unfoldable pub rows_refusal : (s cs ws : List ℕ) → ℕ
rows_refusal s cs ws = first_refusal (closed fields s then area_tests (decode s) cs ws)

abbrev pub RowsCall : (s cs ws : List ℕ) (refusal p n a b : ℕ) (numbered : Bool) (cs' ws' : List ℕ) → Type 0
RowsCall s cs ws = RowsRead (rows_refusal s cs ws) s cs ws

-- and with them
unfoldable pub read_refusal : (s cs ws ks : List ℕ) → ℕ
read_refusal s cs ws ks =
    first_refusal
    (closed fields s
    then area_tests (decode s) cs ws
    then unless (area_test (number_room (decode s)) (length ks)) area_short)

unfoldable pub model_read : (s cs ws ks : List ℕ) → FileModel
model_read s cs ws ks = read_model (read_refusal s cs ws ks) s

pub record ReadCall (s cs ws ks : List ℕ) (refusal p n a b : ℕ) (numbered : Bool) (cs' ws' ks' : List ℕ) : Type 0 where
  pub rows_are : RowsRead (read_refusal s cs ws ks) s cs ws refusal p n a b numbered cs' ws'
  pub numbers_are : ks' ≡ over (number_entries (model_read s cs ws ks).n (model_read s cs ws ks).parameters (model_read s cs ws ks).numbers) ks

-- ---- a model handed over, written into a lent area

-- the model in p, n, a, b and the areas
unfoldable pub handed_over : (p n a b : ℕ) (cs ws : List ℕ) → Option (List ℕ) → FileModel
handed_over p n a b cs ws ns =
    record { p = p; n = n; a = a; b = b; constants = rows_of n a cs; parameters = take b ws; numbers = numbers_of n (take b ws) ns }

unfoldable pub write_refusal : (p n a b : ℕ) (cs ws : List ℕ) → Option (List ℕ) → List ℕ → ℕ
write_refusal p n a b cs ws ns out =
    first_refusal (model_tests p n a b cs ws ns then unless (area_test (length (encode (handed_over p n a b cs ws ns))) (length out)) area_short)

-- what is written: nothing where it is refused
unfoldable pub bytes_written : (p n a b : ℕ) (cs ws : List ℕ) → Option (List ℕ) → List ℕ → List ℕ
bytes_written p n a b cs ws ns out = where_accepted (write_refusal p n a b cs ws ns out) (encode (handed_over p n a b cs ws ns)) []

-- the numbers returned, and the area afterwards
pub record WriteCall (p n a b : ℕ) (cs ws : List ℕ) (ns : Option (List ℕ)) (out : List ℕ) (refusal len : ℕ) (out' : List ℕ) : Type 0 where
  pub refusal_is : refusal ≡ write_refusal p n a b cs ws ns out
  pub length_is : len ≡ length (bytes_written p n a b cs ws ns out)
  pub bytes_are : out' ≡ over (bytes_written p n a b cs ws ns out) out

-- ---- a constant row looked up

unfoldable pub lookup_refusal : List ℕ → ℕ → ℕ
lookup_refusal s i = first_refusal (closed fields s then unless (row_test i (decode s).a) row_beyond)

-- what of the file stands from its first row on, and from constant row i on
unfoldable pub rows_part : List ℕ → List ℕ
rows_part s = sizes_field.rest (prime_field.rest s)

unfoldable pub from_row : List ℕ → ℕ → List ℕ
from_row s i = (many i (constant_row (decode s).p (decode s).n)).rest (rows_part s)

-- where in the file the part starts that is handed back, the row's body, and how long it is: nothing where it is refused
unfoldable pub lookup_start : List ℕ → ℕ → ℕ
lookup_start s i = where_accepted (lookup_refusal s i) (length s - length (drop head_bytes (from_row s i))) 0

unfoldable pub lookup_length : List ℕ → ℕ → ℕ
lookup_length s i = where_accepted (lookup_refusal s i) (2 * (decode s).n) 0

unfoldable pub lookup : List ℕ → ℕ → List ℕ
lookup s i = take (lookup_length s i) (drop (lookup_start s i) s)

-- What functions of crates format, loader and writer promise on the way: what the fields of a file say one after another, and the parts of a file
-- as they are read and written. Definitions only.
use Rattle.std.specs.Prelude.{ℕ, zero, suc, ◌*◌, ◌^◌, ◌<◌, ◌≡◌, Bool, cond, eqb, length, take, drop, Result, Ok, Err}
use mathlib.Core.List.{List, [], ◌∷◌, ◌++◌, flat_map}
use Rattle.std.proofs.Math.Option.{Option, none, some}
use Rattle.columns.specs.Bytes.{number, bytes_of}
use Rattle.columns.specs.Columns.{width, room_bytes, members}
use Rattle.columns.specs.declared.ColumnSet.{ColumnSet}
use Rattle.columns.specs.ColumnSets.{whole}
use Rattle.std.specs.Borrow.{Bor}
use Rattle.format.specs.declared.header.Header.{Header}
use Rattle.format.specs.declared.reader.Reader.{Reader}
use Rattle.format.specs.declared.refusals.Refusal.{Refusal}
use Rattle.format.specs.Refused.{refusal_number}
use Rattle.format.specs.Lists.{over}
use Rattle.format.specs.Numbers.{parameter_count, picked, spread}
use Rattle.format.specs.Refusals.{first_refusal, where_accepted}
use Rattle.format.specs.File.Piece.{field_bytes, closed, said_body, said_rest, said_bodies, said_rests, LastPart}
use Rattle.format.specs.File.Format.{entries, entry_bytes, constant_tag, parameter_tag, number_tag, parameter_size, prime_field, sizes_field, parameter_row, row_fields, Said, refused_header}

-- ---- judged: what the fields say, or a refusal alone. The reader's `prime`, `sizes` and `rows` promise the first three of what they give; `next_said` joins
-- them to what the whole file says before its rows, by which `read_header` is proved

abbrev pub or_refused : ℕ → Said → Said
or_refused k h = where_accepted k h (refused_header k)

unfoldable pub prime_said : List ℕ → Said
prime_said s = or_refused (first_refusal (prime_field.tests s)) (record { refusal = 0; p = prime_field.dec s; n = 0; a = 0; b = 0 })

unfoldable pub sizes_said : List ℕ → Said → Said
sizes_said s h =
    let z = sizes_field.dec s in
    or_refused (first_refusal (sizes_field.tests s)) (record { refusal = 0; p = h.p; n = z.0; a = z.1; b = z.2 })

unfoldable pub rows_said : List ℕ → Said → Said
rows_said s h = or_refused (first_refusal (closed (row_fields h.p (h.n, h.a, h.b)) s)) h

-- what is due next goes by what was said before: p, then the sizes, then the rows and the end; after a refusal nothing
unfoldable pub next_said : List ℕ → Said → Said
next_said s h = where_accepted h.refusal (cond (eqb h.p 0) (prime_said s) (cond (eqb h.n 0) (sizes_said s h) (rows_said s h))) h

-- what a call gives, in that form: the refusal alone, or what is known then, p, or p, n, a, b
abbrev pub p_known : ℕ → Said
p_known p = record { refusal = 0; p = p; n = 0; a = 0; b = 0 }

abbrev pub all_known : Header → Said
all_known h = record { refusal = 0; p = h.p; n = h.n; a = h.a; b = h.b }

abbrev pub said_of : {A : Type 0} → (A → Said) → Result A Refusal → Said
said_of known (Ok x) = known x
said_of known (Err e) = refused_header (refusal_number e)

-- the field of p judged: p, and what follows it, which is the last part of the bytes lent
pub record PrimeParts (s : Bor (List ℕ)) (parts : ℕ × Bor (List ℕ)) : Type 0 where
  pub p_is : parts.0 ≡ prime_field.dec s.now
  pub rest_is : LastPart (prime_field.rest s.now) s parts.1

-- that of the sizes, in a file of this p: the header, and what follows it, the last part too
pub record SizesParts (p : ℕ) (s : Bor (List ℕ)) (parts : Header × Bor (List ℕ)) : Type 0 where
  pub p_is : parts.0.p ≡ p
  pub sizes_are : (parts.0.n, parts.0.a, parts.0.b) ≡ sizes_field.dec s.now
  pub rest_is : LastPart (sizes_field.rest s.now) s parts.1

-- the same with a reader of what follows
abbrev pub PrimeRead : Bor (List ℕ) → ℕ × Reader → Type 0
PrimeRead s parts = PrimeParts s (parts.0, parts.1.rest)

abbrev pub SizesRead : ℕ → Bor (List ℕ) → Header × Reader → Type 0
SizesRead p s parts = SizesParts p s (parts.0, parts.1.rest)

-- a parameter row judged: its set, and what follows it
pub record RowParts (n : ℕ) (s : List ℕ) (parts : ColumnSet × Bor (List ℕ)) : Type 0 where
  pub set_is : whole parts.0 ≡ (parameter_row n).dec s
  pub set_fits : whole parts.0 < 2 ^ width
  pub rest_is : parts.1.now ≡ (parameter_row n).rest s

-- ---- read: by the lengths that the heads say

-- the constants of the k rows in front, row after row
unfoldable pub constants_said : ℕ → List ℕ → List ℕ
constants_said k s = flat_map entries (said_bodies k s)

-- how many fields a parameter row has: its own, and in a numbered model that of its numbers
abbrev pub fields_of_row : Bool → ℕ
fields_of_row numbered = cond numbered 2 1

-- the k parameter rows in front, each of which has so many fields
unfoldable pub parameters_said : (step k : ℕ) → List ℕ → List ℕ
parameters_said step zero s = []
parameters_said step (suc k) s = number (take room_bytes (said_body s)) ∷ parameters_said step k (said_rests step s)

-- the entries of their numbers, n for each row
unfoldable pub row_entries_said : ℕ → List ℕ → List ℕ
row_entries_said n s = spread (members (number (take room_bytes (said_body s)))) 0 n (entries (said_body (said_rest s)))

unfoldable pub numbers_said : (n k : ℕ) → List ℕ → List ℕ
numbers_said n zero s = []
numbers_said n (suc k) s = row_entries_said n s ++ numbers_said n k (said_rests 2 s)

-- ---- written

-- a row of n constants, and a parameter row, as fields
unfoldable pub constant_bytes : ℕ → List ℕ → List ℕ
constant_bytes n r = field_bytes constant_tag (2 * n) (entry_bytes r)

unfoldable pub parameter_bytes : ℕ → ℕ → List ℕ
parameter_bytes n w = field_bytes parameter_tag (parameter_size n) (bytes_of (parameter_size n) w)

-- the numbers of a row, from its entries in an area; and parameter rows with their numbers, from those of an area
unfoldable pub number_bytes : (n w : ℕ) → List ℕ → List ℕ
number_bytes n w row = field_bytes number_tag (2 * parameter_count n w) (entry_bytes (picked (members w) 0 row))

unfoldable pub numbered_row_bytes : (n w : ℕ) → List ℕ → List ℕ
numbered_row_bytes n w row = parameter_bytes n w ++ number_bytes n w row

unfoldable pub numbered_bytes : (n : ℕ) (ws ks : List ℕ) → List ℕ
numbered_bytes n [] ks = []
numbered_bytes n (w ∷ ws) ks = numbered_row_bytes n w (take n ks) ++ numbered_bytes n ws (drop n ks)

-- parameter rows, numbered or not
unfoldable pub rows_bytes : (n : ℕ) (ws : List ℕ) → Option (List ℕ) → List ℕ
rows_bytes n ws none = flat_map (parameter_bytes n) ws
rows_bytes n ws (some ks) = numbered_bytes n ws ks

-- these bytes were put over the front of the area, and so many they are: the next ones go behind them
pub record Put (bs before after : List ℕ) (many : ℕ) : Type 0 where
  pub many_is : many ≡ length bs
  pub bytes_are : after ≡ over bs before

-- Document 02, E4: what programs that go wrong with the parameters' numbers give contradicts the promise, on a small model or file. Assumes nothing.
use Rattle.std.specs.Prelude.{ℕ, ◌≡◌, refl, ◌≢◌, Bool, get_or, replicate}
use Rattle.std.proofs.Common.{sym, ap, ◌∙◌, arith}
use Rattle.std.proofs.Math.Option.{some}
use mathlib.Core.List.{List, [], ◌∷◌, ◌++◌, flat_map, flatten, zip}
use Rattle.counting.specs.Sets.{#}
use Rattle.layered.specs.Answers.{LayeredCall, LayeredFileCall}
use Rattle.layered.specs.Shown.{Answer}
use Rattle.mixed.specs.MixedAnswers.{MixedCall}
use Rattle.mixed.specs.Shown.{MixedAnswer}
use Rattle.format.specs.Lists.{rows_of, over}
use Rattle.format.specs.Numbers.{once, stands_in, parameter_count, picked, spread, numbers_in, entries_for, numbers_of, number_entries, is_numbered}
use Rattle.format.specs.Refusals.{head_test, body_test, due_test, end_test, refusal, mixed_refusal}
use Rattle.format.specs.File.Piece.{head_tests, closed}
use Rattle.format.specs.File.Format.{entries, entry_bytes, prime_field, sizes_field, parameter_size, parameter_row, number_field, numbered_rows, numbered_test, parameter_rows, end_field, row_fields, size_fields, fields, judge, decode, encode}
use Rattle.format.specs.File.Format.{area_tests, number_room, read_model, read_refusal, model_read, ReadCall, handed_over, write_refusal, bytes_written, WriteCall}
use Rattle.refutations.specs.Accepted.{judging}

-- ---- files of two or three columns modulo 2, without constants

-- p, and the sizes
abbrev front : ℕ → ℕ → List ℕ
front n b = 0x01 ∷ 0x02 ∷ 0x00 ∷ 0x02 ∷ 0x00 ∷ 0x02 ∷ 0x03 ∷ 0x00 ∷ n ∷ 0x00 ∷ b ∷ []

-- a parameter row
abbrev row : ℕ → List ℕ
row w = 0x04 ∷ 0x08 ∷ 0x00 ∷ w ∷ 0x00 ∷ 0x00 ∷ 0x00 ∷ 0x00 ∷ 0x00 ∷ 0x00 ∷ 0x00 ∷ []

-- the field of one number
abbrev own : ℕ → List ℕ
own k = 0x06 ∷ 0x02 ∷ 0x00 ∷ k ∷ 0x00 ∷ []

abbrev end : List ℕ
end = 0x05 ∷ 0x00 ∷ 0x00 ∷ []

-- what the computations below open
unfoldable run : ℕ
unfolding judging # flat_map flatten zip rows_of over once stands_in parameter_count picked spread numbers_in entries_for numbers_of number_entries is_numbered head_test body_test due_test end_test head_tests closed entries entry_bytes prime_field sizes_field parameter_size parameter_row number_field numbered_rows numbered_test parameter_rows end_field row_fields size_fields fields judge decode encode area_tests number_room read_model read_refusal handed_over write_refusal bytes_written
run = 0

-- ---- a number met a second time

-- three parameters in a row, with the numbers 1, 2, 1
apart_refused : refusal 2 3 0 1 [] (7 ∷ []) (some (1 ∷ 2 ∷ 1 ∷ [])) ≡ 13
unfolding run
apart_refused = refl

-- neighbours alone are compared
pub only_neighbours : (r : Answer) → LayeredCall 2 3 0 1 [] (7 ∷ []) (some (1 ∷ 2 ∷ 1 ∷ [])) r → r.refusal ≡ 0 → ⊥
only_neighbours r x z = let e = x.is_refusal in let f = apart_refused in omega arith

-- the same in a file, where the three stand in one field
abbrev apart_file : List ℕ
apart_file = front 3 1 ++ row 7 ++ 0x06 ∷ 0x06 ∷ 0x00 ∷ 0x01 ∷ 0x00 ∷ 0x02 ∷ 0x00 ∷ 0x01 ∷ 0x00 ∷ end

apart_judged : judge apart_file ≡ 13
unfolding run
apart_judged = refl

pub only_neighbours_in_a_file : (r : Answer) → LayeredFileCall apart_file r → r.refusal ≡ 0 → ⊥
only_neighbours_in_a_file r x z = let e = x.is_refusal in let f = apart_judged in omega arith

-- one parameter in each of two rows, both with the number 5
rows_refused : refusal 2 2 0 2 [] (1 ∷ 2 ∷ []) (some (5 ∷ 0 ∷ 0 ∷ 5 ∷ [])) ≡ 13
unfolding run
rows_refused = refl

-- each row is looked at for itself
pub only_in_a_row : (r : Answer) → LayeredCall 2 2 0 2 [] (1 ∷ 2 ∷ []) (some (5 ∷ 0 ∷ 0 ∷ 5 ∷ [])) r → r.refusal ≡ 0 → ⊥
only_in_a_row r x z = let e = x.is_refusal in let f = rows_refused in omega arith

-- the same in a file, field by field
abbrev rows_file : List ℕ
rows_file = front 2 2 ++ row 1 ++ own 5 ++ row 2 ++ own 5 ++ end

rows_judged : judge rows_file ≡ 13
unfolding run
rows_judged = refl

pub only_in_a_field : (r : Answer) → LayeredFileCall rows_file r → r.refusal ≡ 0 → ⊥
only_in_a_field r x z = let e = x.is_refusal in let f = rows_judged in omega arith

-- one parameter, at column 0, and its number at column 1 too
entry_accepted : refusal 2 2 0 1 [] (1 ∷ []) (some (5 ∷ 5 ∷ [])) ≡ 0
unfolding run
entry_accepted = refl

-- an entry without a parameter is read
pub reads_other_entries : (r : Answer) → LayeredCall 2 2 0 1 [] (1 ∷ []) (some (5 ∷ 5 ∷ [])) r → r.refusal ≡ 13 → ⊥
reads_other_entries r x z = let e = x.is_refusal in let f = entry_accepted in omega arith

-- ---- which refusal comes first

-- a parameter at column n, and a number twice
beyond_refused : refusal 2 2 0 1 [] (7 ∷ []) (some (5 ∷ 5 ∷ [])) ≡ 6
unfolding run
beyond_refused = refl

-- 13 is given before 6
pub twice_before_beyond : (r : Answer) → LayeredCall 2 2 0 1 [] (7 ∷ []) (some (5 ∷ 5 ∷ [])) r → r.refusal ≡ 13 → ⊥
twice_before_beyond r x z = let e = x.is_refusal in let f = beyond_refused in omega arith

-- in a file the field that stands first is judged first: here it has a number twice, and a row with a parameter at column n follows
abbrev late_file : List ℕ
late_file = front 2 2 ++ row 3 ++ 0x06 ∷ 0x04 ∷ 0x00 ∷ 0x05 ∷ 0x00 ∷ 0x05 ∷ 0x00 ∷ row 4 ++ own 6 ++ end

late_judged : judge late_file ≡ 13
unfolding run
late_judged = refl

-- the numbers of a file are judged when all rows are read
pub numbers_judged_late : (r : Answer) → LayeredFileCall late_file r → r.refusal ≡ 6 → ⊥
numbers_judged_late r x z = let e = x.is_refusal in let f = late_judged in omega arith

-- no constant row for one parameter row, and a number twice
mixed_refused : mixed_refusal 2 2 0 1 [] (3 ∷ []) (some (5 ∷ 5 ∷ [])) ≡ 13
unfolding run
mixed_refused = refl

-- 10 is given before 13
pub mixed_before_twice : (r : MixedAnswer) → MixedCall 2 2 0 1 [] (3 ∷ []) (some (5 ∷ 5 ∷ [])) r → r.refusal ≡ 10 → ⊥
mixed_before_twice r x z = let e = x.is_refusal in let f = mixed_refused in omega arith

-- an area that is short by the entry of a column without a parameter
short_refused : refusal 2 2 0 1 [] (1 ∷ []) (some (5 ∷ [])) ≡ 8
unfolding run
short_refused = refl

-- the numbers of the parameters are room enough
pub short_area_accepted : (r : Answer) → LayeredCall 2 2 0 1 [] (1 ∷ []) (some (5 ∷ [])) r → r.refusal ≡ 0 → ⊥
short_area_accepted r x z = let e = x.is_refusal in let f = short_refused in omega arith

-- ---- the field after the first parameter row decides

abbrev second_file : List ℕ
second_file = front 2 2 ++ row 1 ++ row 2 ++ own 5 ++ end

second_judged : judge second_file ≡ 2
unfolding run
second_judged = refl

-- the second row decides: numbers behind it alone are accepted,
pub second_decides : (r : Answer) → LayeredFileCall second_file r → r.refusal ≡ 0 → ⊥
second_decides r x z = let e = x.is_refusal in let f = second_judged in omega arith

abbrev first_file : List ℕ
first_file = front 2 2 ++ row 1 ++ own 5 ++ row 2 ++ end

first_judged : judge first_file ≡ 2
unfolding run
first_judged = refl

-- or each row for itself: numbers behind the first alone are accepted
pub each_row_decides : (r : Answer) → LayeredFileCall first_file r → r.refusal ≡ 0 → ⊥
each_row_decides r x z = let e = x.is_refusal in let f = first_judged in omega arith

-- ---- a numbered file, judged and read

-- the first row has two parameters, with the least and the largest number, the second has none
abbrev sound_file : List ℕ
sound_file = front 2 2 ++ row 3 ++ 0x06 ∷ 0x04 ∷ 0x00 ∷ 0x00 ∷ 0x00 ∷ 0xFF ∷ 0xFF ∷ row 0 ++ 0x06 ∷ 0x00 ∷ 0x00 ∷ end

sound_judged : judge sound_file ≡ 0
unfolding run
sound_judged = refl

-- it is refused
pub refuses_numbers : (r : Answer) → LayeredFileCall sound_file r → r.refusal ≢ 0 → ⊥
refuses_numbers r x h = h (x.is_refusal ∙ sound_judged)

-- what it holds
pub sound_decoded : decode sound_file
    ≡ record { p = 2; n = 2; a = 0; b = 2; constants = []; parameters = 3 ∷ 0 ∷ []; numbers = some ((0 ∷ 65535 ∷ []) ∷ [] ∷ []) }
unfolding run
sound_decoded = refl

-- one parameter, at column 1, with the number 17
abbrev small_file : List ℕ
small_file = front 2 1 ++ row 2 ++ own 17 ++ end

-- what is in the area of the numbers when small-file is read
after : List ℕ → List ℕ
after ks = let m = read_model (read_refusal small_file [] (9 ∷ []) ks) small_file in over (number_entries m.n m.parameters m.numbers) ks

stored : after (7 ∷ 7 ∷ 7 ∷ []) ≡ 0 ∷ 17 ∷ 7 ∷ []
unfolding run after
stored = refl

module _ (k p n a b : ℕ) (numbered : Bool) (cs' ws' ks' : List ℕ) (x : ReadCall small_file [] (9 ∷ []) (7 ∷ 7 ∷ 7 ∷ []) k p n a b numbered cs' ws' ks') where
  read_so : ks' ≡ 0 ∷ 17 ∷ 7 ∷ []
  unfolding after model_read
  read_so = x.numbers_are ∙ stored

  -- the numbers are stored nowhere,
  pub numbers_stored_nowhere : ks' ≡ 7 ∷ 7 ∷ 7 ∷ [] → ⊥
  numbers_stored_nowhere e = let f : ◌≡◌ {A = ℕ} 7 17 = ap (λ (l : List ℕ). get_or l 1 0) (sym e ∙ read_so) in omega arith

  -- the place without a parameter keeps what was there,
  pub place_not_cleared : ks' ≡ 7 ∷ 17 ∷ 7 ∷ [] → ⊥
  place_not_cleared e = let f : ◌≡◌ {A = ℕ} 7 0 = ap (λ (l : List ℕ). get_or l 0 0) (sym e ∙ read_so) in omega arith

  -- the numbers stand one behind the other,
  pub numbers_stored_in_front : ks' ≡ 17 ∷ 7 ∷ 7 ∷ [] → ⊥
  numbers_stored_in_front e = let f : ◌≡◌ {A = ℕ} 17 0 = ap (λ (l : List ℕ). get_or l 0 0) (sym e ∙ read_so) in omega arith

  -- or the surplus is cleared
  pub surplus_cleared : ks' ≡ 0 ∷ 17 ∷ 0 ∷ [] → ⊥
  surplus_cleared e = let f : ◌≡◌ {A = ℕ} 0 7 = ap (λ (l : List ℕ). get_or l 2 0) (sym e ∙ read_so) in omega arith

-- ---- a numbered model, written

-- a row with two parameters, numbered 5 and 6: 32 bytes
abbrev out : List ℕ
out = replicate 32 9

written : over (bytes_written 2 2 0 1 [] (3 ∷ []) (some (5 ∷ 6 ∷ [])) out) out ≡ front 2 1 ++ row 3 ++ 0x06 ∷ 0x04 ∷ 0x00 ∷ 0x05 ∷ 0x00 ∷ 0x06 ∷ 0x00 ∷ end
unfolding run
written = refl

-- the numbers are written in falling column order,
pub falling_order : (k len : ℕ) (out' : List ℕ) → WriteCall 2 2 0 1 [] (3 ∷ []) (some (5 ∷ 6 ∷ [])) out k len out'
    → out' ≡ front 2 1 ++ row 3 ++ 0x06 ∷ 0x04 ∷ 0x00 ∷ 0x06 ∷ 0x00 ∷ 0x05 ∷ 0x00 ∷ end → ⊥
falling_order k len out' x e = let f : ◌≡◌ {A = ℕ} 6 5 = ap (λ (l : List ℕ). get_or l 25 0) (sym e ∙ x.bytes_are ∙ written) in omega arith

-- or the field of numbers is left out
pub numbers_not_written : (k len : ℕ) (out' : List ℕ) → WriteCall 2 2 0 1 [] (3 ∷ []) (some (5 ∷ 6 ∷ [])) out k len out'
    → out' ≡ front 2 1 ++ row 3 ++ end ++ replicate 7 9 → ⊥
numbers_not_written k len out' x e = let f : ◌≡◌ {A = ℕ} 5 6 = ap (λ (l : List ℕ). get_or l 22 0) (sym e ∙ x.bytes_are ∙ written) in omega arith

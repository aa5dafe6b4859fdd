-- Calls on open models gone wrong: what each of these answers contradicts the promise, on a model of two columns or on an area. Assumes nothing.
use Rattle.std.specs.Prelude.{ℕ, ◌≡◌, refl, ◌≢◌, true, false, length, get_or, replicate}
use Rattle.std.proofs.Common.{sym, ap, ◌∙◌, true≢false, arith}
use mathlib.Core.List.{List, [], ◌∷◌, ◌++◌, flatten, flat_map}
use Rattle.std.proofs.Math.Decide.{ℕ_discrete}
use Rattle.counting.specs.Sets.{#, set, choose, all, indicator}
use Rattle.columns.specs.Columns.{members, word_of, within_in}
use Rattle.columns.specs.ColumnSets.{whole, row_numbers}
use Rattle.columns.specs.declared.ColumnSet.{ColumnSet}
use Rattle.rank.specs.Layered.Rank.{rank, verdict}
use Rattle.residue.specs.Arithmetic.{is_prime, undivided}
use Rattle.format.specs.Lists.{all_pass, over, rows_of}
use Rattle.format.specs.Numbers.{stands_in, once, parameter_count, numbers_of}
use Rattle.format.specs.Refusals.{first_refusal, head_test, body_test, due_test, prime_test, size_test, constant_test, area_test, end_test, row_test, column_test}
use Rattle.format.specs.RefusalLaws.{then_refused}
use Rattle.format.specs.File.Piece.{head_tests, closed}
use Rattle.format.specs.File.Format.{entries, entry_bytes, prime_field, sizes_field, constant_row, parameter_size, parameter_row, number_field, numbered_rows, numbered_test, parameter_rows, end_field, row_fields, size_fields, fields, decode, encode, handed_over}
use Rattle.format.specs.File.Unnumbered.{unnumbered_fields, unnumbered_sizes, unnumbered_rows}
use Rattle.host.specs.AreaCall.{area_refusal}
use Rattle.layered.specs.Shown.{Answer}
use Rattle.open_models.specs.Open.{Open, take_off, put_back, set_place, column_of, held_tests, row_tests, present_test, presence_tests, own_tests, edit_tests, edit_refusal, answer_tests, answer_refusal, with_place, rows_done, present_done, done, after, after_edits, open_model}
use Rattle.editing.specs.Edits.{byte_tests, edit_by, edit_of}
use Rattle.editing.specs.Calls.{held, EditCall, AnswerCall}
use Rattle.editing.specs.Areas.{open_bytes, area_file, area_open, file_opened, edit_area_tests}
use Rattle.editing.specs.Shown.{Held}
use Rattle.editing.specs.declared.edit.Edit.TheVariants.{TakeOff, PutBack, SetPlace}
use Rattle.solvability.specs.Host.{HostOpen, HostEdit, HostOpenAnswer}
use Rattle.promises.specs.EditingLaws.{EditedBy, edits_hold}
use Rattle.promises.specs.Theorems.{refused_edit_changes_nothing}
use Rattle.refutations.specs.Computing.{computing}
use Rattle.refutations.specs.Accepted.{judging}

-- ---- handed over: modulo 2, two columns, constants 1 1, one parameter row with a parameter at column 0

abbrev constants : List ℕ
constants = 1 ∷ 1 ∷ []

abbrev row : List ℕ
row = 1 ∷ 0 ∷ []

-- the set with a number below 2 ^ 64
abbrev columns : ℕ → ColumnSet
columns w = record { low = w; high = 0 }

-- what is held with this row and these columns
abbrev holds : ℕ → Open
holds w = held 2 2 1 1 constants (row_numbers row) (columns w)

unfoldable editing : ℕ
unfolding judging set choose all members word_of within_in indicator whole row_numbers first_refusal row_test column_test column_of held_tests row_tests present_test presence_tests own_tests edit_tests edit_refusal answer_tests answer_refusal with_place rows_done present_done done after after_edits ℕ_discrete
editing = 0

while_out : (after_edits (holds 3) (take_off 1 ∷ set_place 0 1 ∷ put_back 1 ∷ [])).ws ≡ 3 ∷ []
unfolding editing
while_out = refl

-- a column that returns has forgotten the place set while it was out
pub forgets_places_set_while_out : (words : List ℕ) (s : ColumnSet) → EditedBy 2 2 1 1 constants row (columns 3) (TakeOff 1 ∷ SetPlace 0 1 ∷ PutBack 1 ∷ []) words s → row_numbers words ≡ 1 ∷ [] → ⊥
forgets_places_set_while_out words s calls e =
    let h : row_numbers words ≡ 3 ∷ [] = ap (λ (O : Open). O.ws) (edits_hold 2 2 1 1 constants (TakeOff 1 ∷ SetPlace 0 1 ∷ PutBack 1 ∷ []) row (columns 3) words s calls) ∙ while_out in
    let q : ◌≡◌ {A = ℕ} 1 3 = ap (λ (l : List ℕ). get_or l 0 0) (sym e ∙ h) in
    omega arith

out_kept : (after (holds 3) (take_off 0)).ws ≡ 1 ∷ []
unfolding editing
out_kept = refl

-- taking a column off has cleared its places
pub clears_the_places_taken_off : (r : Held) (words : List ℕ) → EditCall 2 2 1 1 constants row (columns 3) (TakeOff 0) r words → row_numbers words ≡ 0 ∷ [] → ⊥
clears_the_places_taken_off r words call e = let q : ◌≡◌ {A = ℕ} 0 1 = ap (λ (l : List ℕ). get_or l 0 0) (sym e ∙ call.rows_are ∙ out_kept) in omega arith

stays_out : (after (holds 2) (set_place 0 0)).present 0 ≡ false
unfolding editing
stays_out = refl

-- setting a place has put its column back
pub setting_puts_the_column_back : (r : Held) (words : List ℕ) → EditCall 2 2 1 1 constants row (columns 2) (SetPlace 0 0) r words → members (whole r.present) 0 ≡ true → ⊥
setting_puts_the_column_back r words call h = true≢false (sym h ∙ call.present_are.columns 0 ∙ stays_out)

-- the numbers due: a column that is out and that there is not; one that is held as present and that there is not, beside one that is in; a row and a column
-- that there are not; a row that there is not, of a model that a rank call refuses
due_11 : edit_refusal (holds 3) (take_off 2) ≡ 11
unfolding editing
due_11 = refl

due_11_held : edit_refusal (holds 7) (put_back 0) ≡ 11
unfolding editing
due_11_held = refl

due_9 : edit_refusal (holds 3) (set_place 1 2) ≡ 9
unfolding editing
due_9 = refl

due_6 : edit_refusal (held 2 2 1 1 constants (row_numbers (4 ∷ 0 ∷ [])) (columns 3)) (set_place 1 0) ≡ 6
unfolding editing
due_6 = refl

due_14 : edit_refusal (holds 3) (put_back 0) ≡ 14
unfolding editing
due_14 = refl

-- 14 before 11, of a column named and of one held
pub fourteen_before_eleven : (r : Held) (words : List ℕ) → EditCall 2 2 1 1 constants row (columns 3) (TakeOff 2) r words → r.refusal ≡ 14 → ⊥
fourteen_before_eleven r words call q = omega (arith, call.is_refusal, due_11)

pub fourteen_before_eleven_held : (r : Held) (words : List ℕ) → EditCall 2 2 1 1 constants row (columns 7) (PutBack 0) r words → r.refusal ≡ 14 → ⊥
fourteen_before_eleven_held r words call q = omega (arith, call.is_refusal, due_11_held)

-- 11 before 9
pub eleven_before_nine : (r : Held) (words : List ℕ) → EditCall 2 2 1 1 constants row (columns 3) (SetPlace 1 2) r words → r.refusal ≡ 11 → ⊥
eleven_before_nine r words call q = omega (arith, call.is_refusal, due_9)

-- 9 before the model's own
pub nine_before_six : (r : Held) (words : List ℕ) → EditCall 2 2 1 1 constants (4 ∷ 0 ∷ []) (columns 3) (SetPlace 1 0) r words → r.refusal ≡ 9 → ⊥
nine_before_six r words call q = omega (arith, call.is_refusal, due_6)

-- putting back a column that is in is accepted
pub puts_back_what_is_in : (r : Held) (words : List ℕ) → EditCall 2 2 1 1 constants row (columns 3) (PutBack 0) r words → r.refusal ≡ 0 → ⊥
puts_back_what_is_in r words call q = omega (arith, call.is_refusal, due_14)

in_0 : members (whole (columns 3)) 0 ≡ true
unfolding editing
in_0 = refl

out_2 : members (whole (columns 3)) 2 ≡ false
unfolding editing
out_2 = refl

-- an edit that is refused has changed the set: a column that was in is out, a column that there is not is in
pub refused_takes_a_column_off : (r : Held) (words : List ℕ) → EditCall 2 2 1 1 constants row (columns 3) (PutBack 0) r words → members (whole r.present) 0 ≡ false → ⊥
refused_takes_a_column_off r words call h =
    let left = (refused_edit_changes_nothing 2 2 1 1 constants row (columns 3) (PutBack 0) r words call (λ z. omega (arith, call.is_refusal, due_14, z))).1 0 in
    true≢false (sym in_0 ∙ sym left ∙ h)

pub refused_puts_a_column_back : (r : Held) (words : List ℕ) → EditCall 2 2 1 1 constants row (columns 3) (TakeOff 2) r words → members (whole r.present) 2 ≡ true → ⊥
refused_puts_a_column_back r words call h =
    let left = (refused_edit_changes_nothing 2 2 1 1 constants row (columns 3) (TakeOff 2) r words call (λ z. omega (arith, call.is_refusal, due_11, z))).1 2 in
    true≢false (sym h ∙ left ∙ out_2)

-- or a word
pub refused_changes_a_word : (r : Held) (words : List ℕ) → EditCall 2 2 1 1 constants row (columns 3) (SetPlace 1 2) r words → words ≢ row → ⊥
refused_changes_a_word r words call ne = ne (refused_edit_changes_nothing 2 2 1 1 constants row (columns 3) (SetPlace 1 2) r words call (λ z. omega (arith, call.is_refusal, due_9, z))).0

-- ---- answered: column 1 alone is present

asked : answer_refusal (holds 2) ≡ 0
unfolding editing
asked = refl

of_column_1 : (rank (open_model (holds 2)) ≡ 1) × (verdict (open_model (holds 2)) ≡ 2)
unfolding editing computing
of_column_1 = (refl, refl)

-- the rank of all columns
pub answers_for_all_columns : (r : Answer) → AnswerCall 2 2 1 1 constants (row_numbers row) (columns 2) r → r.rank ≡ 2 → ⊥
answers_for_all_columns r call q = omega (arith, (call.if_accepted asked).solved.is_rank, of_column_1.0)

-- the verdict by the two columns as opened: open, and not surplus
pub verdict_by_n_as_opened : (r : Answer) → AnswerCall 2 2 1 1 constants (row_numbers row) (columns 2) r → r.verdict ≡ 0 → ⊥
verdict_by_n_as_opened r call q = omega (arith, (call.if_accepted asked).is_verdict, of_column_1.1)

-- no answer where a column is out
pub refuses_to_answer : (r : Answer) → AnswerCall 2 2 1 1 constants (row_numbers row) (columns 2) r → r.refusal ≢ 0 → ⊥
refuses_to_answer r call nz = nz (call.is_refusal ∙ asked)

asked_11 : answer_refusal (holds 7) ≡ 11
unfolding editing
asked_11 = refl

-- an answer, or another number, where a column is held as present that there is not
pub answers_with_a_column_beyond : (r : Answer) → AnswerCall 2 2 1 1 constants (row_numbers row) (columns 7) r → r.refusal ≢ 11 → ⊥
answers_with_a_column_beyond r call ne = ne (call.is_refusal ∙ asked_11)

-- ---- in areas: modulo 2, one column, no constants, one parameter row with a parameter of the number 7

abbrev front : List ℕ
front = 1 ∷ 2 ∷ 0 ∷ 2 ∷ 0 ∷ 2 ∷ 3 ∷ 0 ∷ 1 ∷ 0 ∷ 1 ∷ 4 ∷ 8 ∷ 0 ∷ 1 ∷ 0 ∷ 0 ∷ 0 ∷ 0 ∷ 0 ∷ 0 ∷ 0 ∷ []

abbrev numbered_file : List ℕ
numbered_file = front ++ (6 ∷ 2 ∷ 0 ∷ 7 ∷ 0 ∷ 5 ∷ 0 ∷ 0 ∷ [])

abbrev present_bytes : List ℕ
present_bytes = 1 ∷ replicate 11 0

-- the open model, and the same with the field of numbers
abbrev held_area : List ℕ
held_area = present_bytes ++ (front ++ (5 ∷ 0 ∷ 0 ∷ []))

abbrev numbered_area : List ℕ
numbered_area = present_bytes ++ numbered_file

unfoldable area_run : ℕ
unfolding editing flat_map flatten is_prime undivided all_pass over rows_of head_test body_test due_test prime_test size_test constant_test area_test end_test head_tests closed entries entry_bytes prime_field sizes_field constant_row parameter_size parameter_row number_field numbered_rows numbered_test parameter_rows end_field row_fields size_fields fields decode encode handed_over parameter_count # once stands_in numbers_of unnumbered_fields unnumbered_sizes unnumbered_rows open_bytes area_file area_open file_opened area_refusal byte_tests edit_of edit_by
area_run = 0

not_due : first_refusal (closed unnumbered_fields (area_file numbered_area)) ≡ 2
unfolding area_run
not_due = refl

-- a field of numbers in an area is not refused with 2, by an edit and by the answer
pub accepts_numbers_in_an_area : (bs : List ℕ) (k : ℕ) (area : List ℕ) → HostEdit numbered_area bs k area → k ≢ 2 → ⊥
accepts_numbers_in_an_area bs k area call ne = ne (call.is_number ∙ sym (then_refused (closed unnumbered_fields (area_file numbered_area)) _ 2 (sym not_due) (λ z. omega (arith, z))))

pub answers_with_numbers_in_an_area : (answer : List ℕ) (k : ℕ) (answer' : List ℕ) → HostOpenAnswer numbered_area answer k answer' → k ≢ 2 → ⊥
unfolding area_refusal
answers_with_numbers_in_an_area answer k answer' call ne = ne (call.is_number ∙ sym (then_refused (closed unnumbered_fields (area_file numbered_area)) _ 2 (sym not_due) (λ z. omega (arith, z))))

-- what is due where the numbered file is opened: the field of numbers is gone
opened_byte : get_or (over (open_bytes (file_opened numbered_file)) (replicate 42 0)) 34 0 ≡ 5
unfolding area_run
opened_byte = refl

room_due : (area_refusal (closed fields numbered_file) [] (length (open_bytes (file_opened numbered_file))) (replicate 42 0) ≡ 0)
    × (area_refusal (closed fields numbered_file) [] (length (open_bytes (file_opened numbered_file))) (replicate 37 0) ≡ 0)
    × (area_refusal (closed fields numbered_file) [] (length (open_bytes (file_opened numbered_file))) (replicate 36 0) ≡ 8)
unfolding area_run
room_due = (refl, refl, refl)

-- opening keeps the field of numbers
pub opening_keeps_numbers : (k : ℕ) (area : List ℕ) → HostOpen numbered_file (replicate 42 0) k area → get_or area 34 0 ≡ 6 → ⊥
opening_keeps_numbers k area call q = omega (arith, ap (λ (bs : List ℕ). get_or bs 34 0) (call.if_accepted room_due.0), opened_byte)

-- it asks for room for it
pub opening_asks_room_for_numbers : (k : ℕ) (area : List ℕ) → HostOpen numbered_file (replicate 37 0) k area → k ≡ 8 → ⊥
opening_asks_room_for_numbers k area call q = omega (arith, call.is_number, room_due.1)

-- it opens where there is no room
pub opening_without_room : (k : ℕ) (area : List ℕ) → HostOpen numbered_file (replicate 36 0) k area → k ≢ 8 → ⊥
opening_without_room k area call ne = ne (call.is_number ∙ room_due.2)

-- the numbers due of bytes, and of an edit that says what is so
bytes_due : (first_refusal (edit_area_tests held_area (1 ∷ 0 ∷ [])) ≡ 1) × (first_refusal (edit_area_tests held_area (5 ∷ 0 ∷ 0 ∷ [])) ≡ 2)
    × (first_refusal (edit_area_tests held_area (2 ∷ 0 ∷ 0 ∷ [])) ≡ 14) × (first_refusal (edit_area_tests held_area (1 ∷ 0 ∷ 0 ∷ [])) ≡ 0)
unfolding area_run
bytes_due = (refl, refl, refl, refl)

-- two bytes are an edit
pub accepts_two_bytes : (k : ℕ) (area : List ℕ) → HostEdit held_area (1 ∷ 0 ∷ []) k area → k ≢ 1 → ⊥
accepts_two_bytes k area call ne = ne (call.is_number ∙ bytes_due.0)

-- there is a fifth kind
pub accepts_a_fifth_kind : (k : ℕ) (area : List ℕ) → HostEdit held_area (5 ∷ 0 ∷ 0 ∷ []) k area → k ≢ 2 → ⊥
accepts_a_fifth_kind k area call ne = ne (call.is_number ∙ bytes_due.1)

-- an edit that is refused has changed a byte
pub refused_changes_a_byte : (k : ℕ) (area : List ℕ) → HostEdit held_area (2 ∷ 0 ∷ 0 ∷ []) k area → area ≢ held_area → ⊥
refused_changes_a_byte k area call ne = ne (call.if_refused (λ z. omega (arith, z, bytes_due.2)))

row_byte : get_or (open_bytes (done (area_open held_area) (edit_of (1 ∷ 0 ∷ 0 ∷ [])))) 26 0 ≡ 1
unfolding area_run
row_byte = refl

-- taking a column off has cleared its place in the file
pub clears_the_byte_of_a_place : (k : ℕ) (area : List ℕ) → HostEdit held_area (1 ∷ 0 ∷ 0 ∷ []) k area → get_or area 26 0 ≡ 0 → ⊥
clears_the_byte_of_a_place k area call q = omega (arith, ap (λ (bs : List ℕ). get_or bs 26 0) (call.if_accepted bytes_due.3), row_byte)

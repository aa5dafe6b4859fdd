-- The programs that document 01 lists under "To the testers": what each of them answers contradicts the promise, on a small model or file.
-- Assumes nothing.
use Rattle.std.specs.Prelude.{ℕ, ◌≡◌, refl, ◌≢◌, Bool, true, false, get_or}
use Rattle.std.proofs.Common.{sym, ap, ◌∙◌, true≢false, arith}
use Rattle.std.proofs.Math.Option.{none}
use mathlib.Core.List.{List, [], ◌∷◌, flatten, flat_map}
use Rattle.residue.specs.Arithmetic.{is_prime, undivided}
use Rattle.counting.specs.Sets.{all}
use Rattle.columns.specs.Columns.{members, within_in}
use Rattle.columns.specs.ColumnSets.{whole}
use Rattle.rank.specs.Layered.Rank.{rank, placed}
use Rattle.listed_models.specs.ListedModel.{listed_model}
use Rattle.layered.specs.Answers.{LayeredCall}
use Rattle.layered.specs.Shown.{Answer}
use Rattle.format.specs.Lists.{all_pass, over}
use Rattle.format.specs.Numbers.{is_numbered}
use Rattle.format.specs.Refusals.{first_refusal, head_test, body_test, due_test, prime_test, size_test, constant_test, area_test, end_test, refusal}
use Rattle.promises.specs.DocumentFile.{document_file}
use Rattle.refutations.specs.Computing.{computing}
use Rattle.refutations.specs.Accepted.{judging}
use Rattle.format.specs.File.Piece.{head_tests, closed}
use Rattle.format.specs.File.Format.{entries, prime_field, sizes_field, constant_row, parameter_size, parameter_row, numbered_test, parameter_rows, end_field, row_fields, size_fields, fields, judge, decode, area_tests, number_room, read_model, read_refusal, ReadCall}

unfoldable file_run : ℕ
unfolding flat_map flatten is_prime undivided all members within_in all_pass over first_refusal head_test body_test due_test prime_test size_test constant_test area_test end_test head_tests closed entries prime_field sizes_field constant_row parameter_size parameter_row numbered_test parameter_rows end_field row_fields size_fields fields judge decode area_tests number_room read_model read_refusal is_numbered
file_run = 0

-- p 2, n 2, a 1, constants 0 1: column 0 is blocked, column 1 is not
blocked_accepted : refusal 2 2 1 0 (0 ∷ 1 ∷ []) [] none ≡ 0
unfolding judging
blocked_accepted = refl

blocked_rank : rank (listed_model 2 2 1 0 (0 ∷ 1 ∷ []) []) ≡ 1
unfolding computing
blocked_rank = refl

-- 1: it stops at its first blocked column, so its rank is 0
pub stops_at_blocked : (r : Answer) → LayeredCall 2 2 1 0 (0 ∷ 1 ∷ []) [] none r → r.rank ≡ 0 → ⊥
stops_at_blocked r x z = let e = (x.if_accepted blocked_accepted).solved.is_rank in let f = blocked_rank in omega arith

-- p 2, n 2, a 1, constants 1 1: column 1 cannot be placed beside column 0
equal_accepted : refusal 2 2 1 0 (1 ∷ 1 ∷ []) [] none ≡ 0
unfolding judging
equal_accepted = refl

equal_placed : placed (listed_model 2 2 1 0 (1 ∷ 1 ∷ []) []) 1 ≡ false
unfolding computing
equal_placed = refl

equal_rank : rank (listed_model 2 2 1 0 (1 ∷ 1 ∷ []) []) ≡ 1
unfolding computing
equal_rank = refl

-- 2: it lists column 1 as placed untested
pub takes_untested : (r : Answer) → LayeredCall 2 2 1 0 (1 ∷ 1 ∷ []) [] none r → members (whole r.placed) 1 ≡ true → ⊥
takes_untested r x h = true≢false (sym h ∙ (x.if_accepted equal_accepted).solved.is_placed 1 ∙ equal_placed)

-- 3: it makes up the rank 2
pub made_up_rank : (r : Answer) → LayeredCall 2 2 1 0 (1 ∷ 1 ∷ []) [] none r → r.rank ≡ 2 → ⊥
made_up_rank r x z = let e = (x.if_accepted equal_accepted).solved.is_rank in let f = equal_rank in omega arith

-- 4: it says open, rank 0
pub open_rank_0 : (r : Answer) → LayeredCall 2 2 1 0 (1 ∷ 1 ∷ []) [] none r → r.verdict ≡ 0 → r.rank ≡ 0 → ⊥
open_rank_0 r x o z = let e = (x.if_accepted equal_accepted).solved.is_rank in let f = equal_rank in omega arith

-- 6: it refuses
pub refuses_a_model : (r : Answer) → LayeredCall 2 2 1 0 (1 ∷ 1 ∷ []) [] none r → r.refusal ≢ 0 → ⊥
refuses_a_model r x h = h (x.is_refusal ∙ equal_accepted)

stored : over (flatten (read_model (read_refusal document_file (7 ∷ 7 ∷ 7 ∷ []) (9 ∷ []) []) document_file).constants) (7 ∷ 7 ∷ 7 ∷ []) ≡ 1 ∷ 0 ∷ 7 ∷ []
unfolding file_run document_file
stored = refl

-- 5: it reads and stores nothing
pub stores_nothing : (k p n a b : ℕ) (numbered : Bool) (ws' ks' : List ℕ) → ReadCall document_file (7 ∷ 7 ∷ 7 ∷ []) (9 ∷ []) [] k p n a b numbered (7 ∷ 7 ∷ 7 ∷ []) ws' ks' → ⊥
stores_nothing k p n a b numbered ws' ks' x = let e : ◌≡◌ {A = ℕ} 7 1 = ap (λ (l : List ℕ). get_or l 0 0) (x.rows_are.constants_are ∙ stored) in omega arith

-- and a read that writes past a × n
pub writes_surplus : (k p n a b : ℕ) (numbered : Bool) (ws' ks' : List ℕ) → ReadCall document_file (7 ∷ 7 ∷ 7 ∷ []) (9 ∷ []) [] k p n a b numbered (1 ∷ 0 ∷ 0 ∷ []) ws' ks' → ⊥
writes_surplus k p n a b numbered ws' ks' x = let e : ◌≡◌ {A = ℕ} 0 7 = ap (λ (l : List ℕ). get_or l 2 0) (x.rows_are.constants_are ∙ stored) in omega arith

read_accepted : read_refusal document_file (7 ∷ 7 ∷ 7 ∷ []) (9 ∷ []) [] ≡ 0
unfolding file_run document_file
read_accepted = refl

-- 6: it refuses the file
pub refuses_the_file : (k p n a b : ℕ) (numbered : Bool) (cs' ws' ks' : List ℕ) → ReadCall document_file (7 ∷ 7 ∷ 7 ∷ []) (9 ∷ []) [] k p n a b numbered cs' ws' ks' → k ≢ 0 → ⊥
refuses_the_file k p n a b numbered cs' ws' ks' x h = h (x.rows_are.refusal_is ∙ read_accepted)

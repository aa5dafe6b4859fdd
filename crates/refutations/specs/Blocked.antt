-- What the promise of the call about the reason for a column rules out, on small models modulo 2, and its order of refusals. Assumes nothing.
use Rattle.std.specs.Prelude.{ℕ, ◌≡◌, refl, ◌≢◌, true, false, replicate}
use Rattle.std.proofs.Common.{sym, ◌∙◌, true≢false, arith}
use Rattle.std.proofs.Math.Option.{Option, none, some}
use mathlib.Core.List.{List, [], ◌∷◌, flatten}
use Rattle.limits.specs.Limits.{most_columns}
use Rattle.counting.specs.Sets.{#}
use Rattle.columns.specs.Columns.{width, word_of}
use Rattle.columns.specs.ColumnSets.{whole, empty_set}
use Rattle.listed_models.specs.ListedModel.{listed_model}
use Rattle.rank.specs.Layered.Rank.{short}
use Rattle.blocking.specs.Reason.{reason, untouched}
use Rattle.format.specs.Numbers.{once, stands_in, parameter_count, picked, numbers_in}
use Rattle.format.specs.Refusals.{◌then◌, first_refusal, column_test, model_tests}
use Rattle.reason.specs.Answers.{reason_question, ReasonCall}
use Rattle.reason.specs.Shown.{Reason}
use Rattle.refutations.specs.Computing.{computing}
use Rattle.refutations.specs.Accepted.{judging}

-- all that has to be opened to run the definitions, and to judge a call
unfoldable run : ℕ
unfolding computing judging reason untouched column_test
run = 0

-- the number of a call about column x of n columns modulo 2, with a constant rows and b parameter rows; and the number of the reason
abbrev due : (n a b : ℕ) → List ℕ → List ℕ → ℕ → ℕ
due n a b cs ws x = first_refusal (model_tests 2 n a b cs ws none then reason_question (listed_model 2 n a b cs ws) x)

abbrev number_of_reason : (n a b : ℕ) → List ℕ → List ℕ → ℕ → ℕ
number_of_reason n a b cs ws x = word_of width (reason (listed_model 2 n a b cs ws) x)

-- ---- the set

-- two columns and no row: column 1 blocks itself, and the short set has both columns
alone_asked : due 2 0 0 [] [] 1 ≡ 0
unfolding run
alone_asked = refl

alone : number_of_reason 2 0 0 [] [] 1 ≡ 2
unfolding run
alone = refl

alone_short : word_of width (short (listed_model 2 2 0 0 [] [])) ≡ 3
unfolding run
alone_short = refl

-- the short set of the whole model is given as the reason
pub short_set_given_as_the_reason : (r : Reason) → ReasonCall 2 2 0 0 [] [] none 1 r → whole r.set ≡ word_of width (short (listed_model 2 2 0 0 [] [])) → ⊥
short_set_given_as_the_reason r s e = omega (arith, e, alone_short, (s.if_accepted alone_asked).set_number, alone)

-- two equal columns of one constant row: both are the reason for column 1
equal_asked : due 2 1 0 (1 ∷ 1 ∷ []) [] 1 ≡ 0
unfolding run
equal_asked = refl

equal : number_of_reason 2 1 0 (1 ∷ 1 ∷ []) [] 1 ≡ 3
unfolding run
equal = refl

-- the placed columns of the reason are given without the named one
pub reason_without_the_column : (r : Reason) → ReasonCall 2 2 1 0 (1 ∷ 1 ∷ []) [] none 1 r → whole r.set ≡ 1 → ⊥
reason_without_the_column r s e = omega (arith, e, (s.if_accepted equal_asked).set_number, equal)

-- columns 0 and 2 are equal in the first of two constant rows, column 1 alone has an entry in the second
apart_asked : due 3 2 0 (1 ∷ 0 ∷ 1 ∷ 0 ∷ 1 ∷ 0 ∷ []) [] 2 ≡ 0
unfolding run
apart_asked = refl

apart : number_of_reason 3 2 0 (1 ∷ 0 ∷ 1 ∷ 0 ∷ 1 ∷ 0 ∷ []) [] 2 ≡ 5
unfolding run
apart = refl

-- all placed columns are given with the named one
pub every_placed_column_given : (r : Reason) → ReasonCall 2 3 2 0 (1 ∷ 0 ∷ 1 ∷ 0 ∷ 1 ∷ 0 ∷ []) [] none 2 r → whole r.set ≡ 7 → ⊥
every_placed_column_given r s e = omega (arith, e, (s.if_accepted apart_asked).set_number, apart)

-- ---- multipliers

-- one parameter row for two columns: it touches the reason, which has both
touched_asked : due 2 0 1 [] (3 ∷ []) 1 ≡ 0
unfolding run
touched_asked = refl

touched : untouched (listed_model 2 2 0 1 [] (3 ∷ [])) (reason (listed_model 2 2 0 1 [] (3 ∷ [])) 1) ≡ false
unfolding run
touched = refl

-- multipliers are given although a parameter row touches the set
pub given_where_a_row_touches : (r : Reason) → ReasonCall 2 2 0 1 [] (3 ∷ []) none 1 r → r.given ≡ true → ⊥
given_where_a_row_touches r s e = true≢false (sym e ∙ (s.if_accepted touched_asked).is_given ∙ touched)

equal_free : untouched (listed_model 2 2 1 0 (1 ∷ 1 ∷ []) []) (reason (listed_model 2 2 1 0 (1 ∷ 1 ∷ []) []) 1) ≡ true
unfolding run
equal_free = refl

-- none are given although none touches it
pub none_given_where_no_row_touches : (r : Reason) → ReasonCall 2 2 1 0 (1 ∷ 1 ∷ []) [] none 1 r → r.given ≡ false → ⊥
none_given_where_no_row_touches r s e = true≢false (sym equal_free ∙ sym (s.if_accepted equal_asked).is_given ∙ e)

-- ---- refusals

-- column 0 is placed
pub placed_column_not_refused : (r : Reason) → ReasonCall 2 2 1 0 (1 ∷ 1 ∷ []) [] none 0 r → r.refusal ≢ 12 → ⊥
unfolding run
placed_column_not_refused r s ne = ne s.is_refusal

-- of two columns, column 2 is named
pub column_beyond_not_refused : (r : Reason) → ReasonCall 2 2 1 0 (1 ∷ 1 ∷ []) [] none 2 r → r.refusal ≢ 11 → ⊥
unfolding run
column_beyond_not_refused r s ne = ne s.is_refusal

-- an unplaced column is refused as placed
pub unplaced_column_refused : (r : Reason) → ReasonCall 2 2 1 0 (1 ∷ 1 ∷ []) [] none 1 r → r.refusal ≡ 12 → ⊥
unplaced_column_refused r s e = let d : r.refusal ≡ 0 = s.is_refusal ∙ equal_asked in omega arith

-- 11 is given before 3: p is 4
pub column_before_the_prime : (r : Reason) → ReasonCall 4 2 0 0 [] [] none 2 r → r.refusal ≡ 11 → ⊥
unfolding run
column_before_the_prime r s e = let d : r.refusal ≡ 3 = s.is_refusal in omega arith

-- the numbers of the parameters are not judged: both parameters of the row have the number 5
pub reason_numbers_not_judged : (r : Reason) → ReasonCall 2 2 0 1 [] (3 ∷ []) (some (5 ∷ 5 ∷ [])) 1 r → r.refusal ≢ 13 → ⊥
unfolding run # flatten once stands_in parameter_count picked numbers_in
reason_numbers_not_judged r s ne = ne s.is_refusal

-- a refusal has the empty set and no multiplier
pub refused_with_a_set : (p n a b : ℕ) (cs ws : List ℕ) (ns : Option (List ℕ)) (x : ℕ) (r : Reason) → ReasonCall p n a b cs ws ns x r → r.refusal ≢ 0
    → (r.set ≡ empty_set) × (r.given ≡ false) × (r.multipliers ≡ replicate most_columns 0)
refused_with_a_set p n a b cs ws ns x r s ne = let u = s.if_refused (λ z. ne (s.is_refusal ∙ z)) in (u.no_set, u.not_given, u.no_multipliers)

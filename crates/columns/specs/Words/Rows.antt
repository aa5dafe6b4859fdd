-- The laws of areas of parameter rows. Assumes nothing.
use Rattle.std.specs.Prelude.{ℕ, zero, suc, ◌+◌, ◌*◌, ◌/◌, ◌^◌, ◌≤◌, ◌<◌, ◌≡◌, refl, Bool, false, cond, List, [], ◌∷◌, length, get_or, replicate, set}
use Rattle.std.proofs.Common.{sym, ap, ◌∙◌, true≢false, arith, length-set, pow_pos, lt-ltb, le-ltb}
use Rattle.std.proofs.Math.Decide.{dec_lt}
use Rattle.std.proofs.Math.ListN.{get_or-eq_default}
use Rattle.std.proofs.Math.Seq.{set_out}
use Rattle.limits.specs.Limits.{most_rows}
use Rattle.counting.specs.Bools.{not_true}
use Rattle.counting.specs.Sets.{Set, ◌∩◌, any, touching}
use Rattle.counting.specs.Counts.{touching_iff}
use Rattle.columns.specs.Columns.{word_width, width, members}
use Rattle.columns.specs.ColumnSets.{joined, low_word, high_word, row_words, most_words, row_numbers, rows_touching, with_row}
use Rattle.columns.specs.Words.Operations.{members_zero}
use Rattle.columns.specs.Words.Halves.{joined_below}

pub rows_length : (ws : List ℕ) → length (row_numbers ws) ≡ length ws / row_words
unfolding row_numbers
rows_length [] = refl
rows_length (l ∷ []) = refl
rows_length (l ∷ h ∷ ws) = omega (arith, rows_length ws)

-- an area of the largest size has room for the rows of every model
pub most_words_rows : (ws : List ℕ) → length ws ≡ most_words → length (row_numbers ws) ≡ most_rows
most_words_rows ws e = omega (arith, rows_length ws)

-- ---- a row read

-- the row's two words stand one behind the other
pub row_there : (ws : List ℕ) (r : ℕ) → r < length (row_numbers ws) → row_words * r + 1 < length ws
row_there ws r l = omega (arith, rows_length ws)

pub row_words_joined : (ws : List ℕ) (r : ℕ) → r < length (row_numbers ws)
    → joined (get_or ws (row_words * r) 0) (get_or ws (row_words * r + 1) 0) ≡ get_or (row_numbers ws) r 0
unfolding row_numbers
row_words_joined [] r l = absurd (omega arith)
row_words_joined (w ∷ []) r l = absurd (omega arith)
row_words_joined (w ∷ v ∷ ws) zero l = refl
row_words_joined (w ∷ v ∷ ws) (suc r) l =
    let e : row_words * suc r ≡ suc (suc (row_words * r)) = omega arith in
    let d : row_words * suc r + 1 ≡ suc (suc (row_words * r + 1)) = omega arith in
    rw d (rw e (row_words_joined ws r (omega arith)))

-- rows of words are below the largest number of a set
pub rows_below : (ws : List ℕ) → ((i : ℕ) → get_or ws i 0 < 2 ^ word_width) → (r : ℕ) → get_or (row_numbers ws) r 0 < 2 ^ width
unfolding row_numbers
rows_below [] b r = pow_pos width
rows_below (l ∷ []) b r = pow_pos width
rows_below (l ∷ h ∷ ws) b zero = joined_below l h (b 0) (b 1)
rows_below (l ∷ h ∷ ws) b (suc r) = rows_below ws (λ i. b (suc (suc i))) r

-- an area of zeros has empty rows
pub rows_zeros : row_numbers (replicate most_words 0) ≡ replicate most_rows 0
unfolding row_numbers
rows_zeros = refl

-- ---- a row written

words_of_number : (w : ℕ) → joined (low_word w) (high_word w) ≡ w
words_of_number w = omega arith

rows_set : (ws : List ℕ) (r w : ℕ) → r < length (row_numbers ws)
    → row_numbers (set (set ws (row_words * r) (low_word w)) (row_words * r + 1) (high_word w)) ≡ set (row_numbers ws) r w
unfolding row_numbers
rows_set [] r w l = absurd (omega arith)
rows_set (l ∷ []) r w h = absurd (omega arith)
rows_set (l ∷ h ∷ ws) zero w x = ap (λ (v : ℕ). v ∷ row_numbers ws) (words_of_number w)
rows_set (l ∷ h ∷ ws) (suc r) w x =
    let e : row_words * suc r ≡ suc (suc (row_words * r)) = omega arith in
    let d : row_words * suc r + 1 ≡ suc (suc (row_words * r + 1)) = omega arith in
    rw d (rw e (ap (λ (t : List ℕ). joined l h ∷ t) (rows_set ws r w (omega arith))))

pub with_row_there : (ws : List ℕ) (r w : ℕ) → r < length (row_numbers ws) → with_row ws r w ≡ set (set ws (row_words * r) (low_word w)) (row_words * r + 1) (high_word w)
unfolding with_row
with_row_there ws r w l = ap (λ b. cond b (set (set ws (row_words * r) (low_word w)) (row_words * r + 1) (high_word w)) ws) (lt-ltb r (length (row_numbers ws)) l)

pub with_row_past : (ws : List ℕ) (r w : ℕ) → length (row_numbers ws) ≤ r → with_row ws r w ≡ ws
unfolding with_row
with_row_past ws r w l = ap (λ b. cond b (set (set ws (row_words * r) (low_word w)) (row_words * r + 1) (high_word w)) ws) (le-ltb r (length (row_numbers ws)) l)

pub rows_with_row : (ws : List ℕ) (r w : ℕ) → row_numbers (with_row ws r w) ≡ set (row_numbers ws) r w
rows_with_row ws r w = elim (dec_lt r (length (row_numbers ws))) [
  | yes l ↦ ap row_numbers (with_row_there ws r w l) ∙ rows_set ws r w l
  | no nl ↦ ap row_numbers (with_row_past ws r w (omega arith)) ∙ sym (set_out (row_numbers ws) r w (omega arith))
]

pub with_row_length : (ws : List ℕ) (r w : ℕ) → length (with_row ws r w) ≡ length ws
with_row_length ws r w = elim (dec_lt r (length (row_numbers ws))) [
  | yes l ↦ ap length (with_row_there ws r w l) ∙ length-set (set ws (row_words * r) (low_word w)) (row_words * r + 1) (high_word w) ∙ length-set ws (row_words * r) (low_word w)
  | no nl ↦ ap length (with_row_past ws r w (omega arith))
]

-- ---- rows that touch a set

-- a row that is not there has no parameter
pub no_row_touches : (ws : List ℕ) (K : Set) (r : ℕ) → length ws ≤ r → rows_touching ws K r ≡ false
no_row_touches ws K r l = not_true (rows_touching ws K r) (λ e.
    let s = (touching_iff width (λ i. members (get_or ws i 0)) K r).0 e in
    let none_there : members (get_or ws r 0) s.0 ≡ false = ap (λ (w : ℕ). members w s.0) (get_or-eq_default ws 0 l) ∙ ap (λ (S : Set). S s.0) members_zero in
    true≢false (sym s.2.1 ∙ none_there))

-- a row touches a set where its number does
pub row_touches : (ws : List ℕ) (K : Set) (r w : ℕ) (t : Bool) → w ≡ get_or ws r 0 → t ≡ any width (K ∩ members w) → rows_touching ws K r ≡ t
unfolding touching
row_touches ws K r w t e d = sym (d ∙ ap (λ (v : ℕ). any width (K ∩ members v)) e)

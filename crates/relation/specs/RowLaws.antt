-- The rows of an area when one has been written. Assumes nothing.
use Rattle.std.specs.Prelude.{ℕ, zero, suc, ◌/◌, ◌≤◌, ◌≡◌, refl, ◌≢◌, List, length, get_or, replicate}
use Rattle.std.proofs.Common.{sym, ◌∙◌, ap, get_or-set_same, get_or-set_other}
use Rattle.std.proofs.Math.ListN.{get_or-eq_default}
use Rattle.columns.specs.Columns.{members, none}
use Rattle.columns.specs.ColumnSets.{row_words, row_numbers, with_row}
use Rattle.columns.specs.Words.Rows.{rows_length, rows_with_row, with_row_past}
use Rattle.columns.specs.Words.Operations.{members_zero}
use Rattle.relation.specs.Relations.{row_of, HasRow}

pub put_same : (ws : List ℕ) (x w : ℕ) → HasRow ws x → row_of (with_row ws x w) x ≡ members w
put_same ws x w l = ap (λ (r : List ℕ). members (get_or r x 0)) (rows_with_row ws x w) ∙ ap members (get_or-set_same (row_numbers ws) x w 0 l)

pub put_other : (ws : List ℕ) (x w z : ℕ) → z ≢ x → row_of (with_row ws x w) z ≡ row_of ws z
put_other ws x w z nz = ap (λ (r : List ℕ). members (get_or r z 0)) (rows_with_row ws x w) ∙ ap members (get_or-set_other (row_numbers ws) x z w 0 nz)

-- a column without a row has none, and nothing is put there
pub no_row : (ws : List ℕ) (x : ℕ) → length (row_numbers ws) ≤ x → row_of ws x ≡ none
no_row ws x l = ap members (get_or-eq_default (row_numbers ws) 0 l) ∙ members_zero

pub put_past : (ws : List ℕ) (x w z : ℕ) → length (row_numbers ws) ≤ x → row_of (with_row ws x w) z ≡ row_of ws z
put_past ws x w z l = ap (λ (r : List ℕ). row_of r z) (with_row_past ws x w l)

-- areas of one length have the same rows
pub same_rows : (ws ws' : List ℕ) → length ws' ≡ length ws → length (row_numbers ws') ≡ length (row_numbers ws)
same_rows ws ws' e = rows_length ws' ∙ ap (λ (k : ℕ). k / row_words) e ∙ sym (rows_length ws)

-- an area of zeros has no column in any row
pub no_rows : (k x : ℕ) → row_of (replicate k 0) x ≡ none
unfolding row_numbers
no_rows k x = ap members (zero_row k x) ∙ members_zero
  where
    zero_row : (k x : ℕ) → get_or (row_numbers (replicate k 0)) x 0 ≡ 0
    zero_row zero x = refl
    zero_row (suc zero) x = refl
    zero_row (suc (suc k)) zero = refl
    zero_row (suc (suc k)) (suc x) = zero_row k x

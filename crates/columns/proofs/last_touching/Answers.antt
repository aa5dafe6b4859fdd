-- `columns::last_touching` meets its contract: rows that the area does not have touch nothing. Assumes nothing.
use Rattle.std.proofs.Common.{ℕ, List, min, length, arith, ◌≡◌, sym, ◌∙◌}
use Rattle.counting.specs.Sets.{Set}
use Rattle.columns.specs.Columns.{last_member}
use Rattle.columns.specs.ColumnSets.{rows_touching}
use Rattle.columns.specs.Words.Rows.{no_row_touches}
use Rattle.columns.specs.Words.SetLaws.{last_member_cut}
use Rattle.columns.proofs.last_touching.Goals as goal

-- the rows that are there are all that count
there : (ws : List ℕ) (J : Set) (end all : ℕ) → all ≡ min end (length ws) → last_member end end (rows_touching ws J) ≡ last_member end all (rows_touching ws J)
there ws J end all e = last_member_cut end all end (rows_touching ws J) (omega arith) (λ x l h. no_row_touches ws J x (omega arith))

pub last_below_low-requires : goal.last_below_low-requires
last_below_low-requires c = (omega (arith, c.rows_below-all.ensures), c.if-set-eq-EMPTY.true)

pub returns-then-set-eq-EMPTY : goal.returns-then-set-eq-EMPTY
returns-then-set-eq-EMPTY c = c.last_below_low.ensures ∙ sym (there _ _ _ _ c.rows_below-all.ensures)

pub returns-else-set-eq-EMPTY : goal.returns-else-set-eq-EMPTY
returns-else-set-eq-EMPTY c = c.last_below.ensures ∙ sym (there _ _ _ _ c.rows_below-all.ensures)

-- The verdict (document 01, as document 02's E8 changes it): one rule for layered and mixed models, of the rank, the number of columns and the number
-- of rows. Definitions only.
use Rattle.std.specs.Prelude.{ℕ, ◌&&◌, cond, eqb, ltb}

-- 1 "determined" where the rank equals both the number of columns and the number of rows, 2 "surplus" where it equals the number of columns and rows
-- are more, 0 "open" otherwise
unfoldable pub verdict_number : (the_rank columns rows : ℕ) → ℕ
verdict_number the_rank columns rows = cond (eqb the_rank columns && eqb the_rank rows) 1 (cond (eqb the_rank columns && ltb columns rows) 2 0)

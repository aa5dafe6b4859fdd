-- What an answer to a layered model says, with the assignment that it shows: what the promises of the rank calls cite. Definitions only.
use Rattle.std.specs.Prelude.{ℕ, ◌≤◌, ◌<◌, ◌≡◌, ◌≢◌, ◌⊎◌, cond, List, get_or, ltb}
use Rattle.std.proofs.Math.Decide.{ℕ_discrete}
use Rattle.limits.specs.Limits.{most_rows, no_column}
use Rattle.counting.specs.Sets.{Set, Some}
use Rattle.counting.specs.Counts.{some?}
use Rattle.rank.specs.Layered.Model.{Model, Seat, out, constant, row, Assignment, placing, constants, Legal}
use Rattle.rank.specs.Layered.Rank.{rank, placed, short}

-- a parameter row below b that shows column x, or out; where an answer is legal there is at most one
unfoldable pub shown_row : (b : ℕ) (rows : List ℕ) (x : ℕ) → Dec (Some b (λ r. get_or rows r 0 ≡ x)) → Seat
shown_row b rows x (yes w) = row w.0
shown_row b rows x (no nw) = out

-- the seat that the rows show for column x
abbrev pub seat_by_rows : (b : ℕ) (rows : List ℕ) (x : ℕ) → Seat
seat_by_rows b rows x = shown_row b rows x (some? b (λ r. get_or rows r 0 ≡ x) (λ r. ℕ_discrete (get_or rows r 0) x))

-- the assignment that an answer shows: a column of the constant side is there, a row's column is on that row, and columns from n on are out
unfoldable pub shown : (n b : ℕ) (side : Set) (rows : List ℕ) → Assignment
shown n b side rows x = cond (ltb x n) (cond (side x) constant (seat_by_rows b rows x)) out

-- row r shows the column that has its seat there,
abbrev pub ShowsColumn : (n b : ℕ) (side : Set) (rows : List ℕ) (r : ℕ) → Type 0
ShowsColumn n b side rows r = (get_or rows r 0 < n) × (shown n b side rows (get_or rows r 0) ≡ row r)

-- or no column, where none has its seat there
abbrev pub ShowsNone : (n b : ℕ) (side : Set) (rows : List ℕ) (r : ℕ) → Type 0
ShowsNone n b side rows r = (get_or rows r 0 ≡ no_column) × ((x : ℕ) → shown n b side rows x ≢ row r)

abbrev pub ShowsRow : (n b : ℕ) (side : Set) (rows : List ℕ) (r : ℕ) → Type 0
ShowsRow n b side rows r = ShowsColumn n b side rows r ⊎ ShowsNone n b side rows r

-- the answer to M: rank, placed set and short set are those of the definitions. The assignment is legal and places exactly the placed set; which side
-- and row a placed column takes is left open, and this is all that holds of it.
pub record Solved (M : Model) (the_rank : ℕ) (the_placed the-side the_short : Set) (rows : List ℕ) : Type 0 where
  pub is_rank : the_rank ≡ rank M
  pub is_placed : (x : ℕ) → the_placed x ≡ placed M x
  pub is_short : (x : ℕ) → the_short x ≡ short M x
  pub is_legal : Legal M (shown M.n M.b the-side rows)
  pub places_it : (x : ℕ) → placing (shown M.n M.b the-side rows) x ≡ placed M x
  -- the side and the rows show nothing else
  pub side_shown : (x : ℕ) → the-side x ≡ constants (shown M.n M.b the-side rows) x
  pub rows_shown : (r : ℕ) → r < M.b → ShowsRow M.n M.b the-side rows r
  pub past_rows : (r : ℕ) → M.b ≤ r → r < most_rows → get_or rows r 0 ≡ no_column

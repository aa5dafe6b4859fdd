-- How a number met a second time is found, as private functions of crate format promise it: a table has a bit for each number, set where it was met.
-- Definitions only.
use Rattle.std.specs.Prelude.{ℕ, ◌+◌, ◌*◌, ◌/◌, ◌%◌, ◌<◌, ◌≡◌, Bool, true, cond, Result, List, [], ◌∷◌, ◌++◌, length, get_or}
use Rattle.counting.specs.Sets.{Set}
use Rattle.columns.specs.Columns.{word_width, members}
use Rattle.std.specs.Borrow.{Bor}
use Rattle.format.specs.declared.refusals.Refusal.{Refusal}
use Rattle.format.specs.Numbers.{stands_in, once}
use Rattle.format.specs.File.Piece.{Piece, Judgement}

-- how many words it has
abbrev pub table_words : ℕ
table_words = 65536 / word_width

-- the place of number k among the bits. The sum of its bytes counts most, so that numbers that go up by 1, or by 256, stand in words apart: a word that was
-- just written is slow to read.
abbrev pub place : ℕ → ℕ
place k = 256 * ((k % 256 + k / 256) % 256) + k / 256

-- number k is marked
abbrev pub marked : List ℕ → ℕ → Bool
marked table k = members (get_or table (place k / word_width) 0) (place k % word_width)

-- the table says which numbers were met before, each of them once
pub record Keeps (before table : List ℕ) : Type 0 where
  pub marks : (k : ℕ) → k < 65536 → marked table k ≡ stands_in k before
  pub met_once : once before ≡ true

-- after those before, these numbers are met: whether none of them a second time, and then the table has them too
pub record Meets (ks table table' : List ℕ) (r : Bool) : Type 0 where
  pub same_length : length table' ≡ length table
  pub told : (before : List ℕ) → Keeps before table → r ≡ once (before ++ ks)
  pub kept : (before : List ℕ) → Keeps before table → r ≡ true → Keeps (before ++ ks) table'

-- the entry of a row at column c, where S has that column
unfoldable pub entry_at : Set → (c k : ℕ) → List ℕ
entry_at S c k = cond (S c) (k ∷ []) []

-- a piece that goes by the numbers met before is judged: what follows it is given, and the table goes on to what step makes of them
pub record NumbersJudged {A : Type 0} (P : List ℕ → Piece A) (step : List ℕ → A → List ℕ) (s table table' : List ℕ) (r : Result (Bor (List ℕ)) Refusal) : Type 0 where
  pub same_length : length table' ≡ length table
  pub judged : (before : List ℕ) → Keeps before table → Judgement ((P before).tests s) (λ next. (next.now ≡ (P before).rest s) × Keeps (step before ((P before).dec s)) table') r

-- An answer about blocks in numbers, with that of its refusal, and what the code gives in that form.
-- Definitions only.
use Rattle.std.specs.Prelude.{ℕ, List, replicate, Result, Ok, Err}
use Rattle.limits.specs.Limits.{most_columns, no_column}
use Rattle.format.specs.Refused.{refusal_number}
use Rattle.format.specs.declared.refusals.Refusal.{Refusal}
use Rattle.blocks.specs.declared.Blocks as code

-- the refusal or 0; how many blocks there are; and the number of each column's block in the listing, 255 past the last column
pub record Blocks : Type 0 where
  pub refusal : ℕ
  pub count : ℕ
  pub numbers : List ℕ

-- an answer refuses nothing; a refusal has no blocks
abbrev pub blocks_shown : Result code.Blocks Refusal → Blocks
blocks_shown (Ok r) = record { refusal = 0; count = r.count; numbers = r.numbers }
blocks_shown (Err e) = record { refusal = refusal_number e; count = 0; numbers = replicate most_columns no_column }

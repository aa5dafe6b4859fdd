-- The bytes of an answer about blocks, by the pattern of the calls for a host in C. Definitions only.
use Rattle.std.specs.Prelude.{ℕ, ◌+◌, List, ◌∷◌}
use Rattle.limits.specs.Limits.{most_columns}
use Rattle.blocks.specs.Shown.{Blocks}

-- how many there are
abbrev pub blocks_length : ℕ
blocks_length = 1 + most_columns

-- the number of blocks, and a byte for each column that a model may have: the number of its block, or 255
abbrev pub blocks_bytes : Blocks → List ℕ
blocks_bytes r = r.count ∷ r.numbers

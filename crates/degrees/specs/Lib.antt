-- The degree of a determinant in s: `Degrees` is the definition, `Dynamics` and `Levels` say what the descent carries, `Theorems` what is proved of both;
-- the rest are lemmas.
pub mod Degrees
pub mod Dynamics
pub mod Levels
pub mod Totals
pub mod TightEntries
pub mod TightPart
pub mod Bound
pub mod Pivots
pub mod Elimination
pub mod Raising
pub mod Computed

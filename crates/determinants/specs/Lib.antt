-- The rank that textbooks mean: the largest order of a square part whose determinant is not zero. `Determinant`, `ModelTables` and `Statements` are the
-- definitions, `Computed` runs them, `Theorems` is what is proved of them; the rest are lemmas.
pub mod Determinant
pub mod Computed
pub mod ModelTables
pub mod Statements
pub mod Lists
pub mod Arrangements
pub mod Expansion
pub mod Letters
pub mod Assignments
pub mod Parts
pub mod Theorems

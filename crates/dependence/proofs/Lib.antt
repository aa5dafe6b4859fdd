-- The theorems on multipliers.
pub mod NumberLaws
pub mod Theorems

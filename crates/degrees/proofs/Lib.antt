-- The theorems on the degree.
pub mod Degree
pub mod Rounds
pub mod Theorems

-- The theorems on open models.
pub mod JudgeLaws
pub mod HeldLaws
pub mod Theorems

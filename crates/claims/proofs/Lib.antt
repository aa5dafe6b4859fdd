-- The theorems on claims.
pub mod ClaimLaws
pub mod Theorems

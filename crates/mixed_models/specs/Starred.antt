-- The starred bench models of document 01: claims with evidence that is computed, and the table.
pub mod Lists
pub mod Pivots
pub mod Claims
pub mod Sound
pub mod Checked
pub mod Models
pub mod Evidence

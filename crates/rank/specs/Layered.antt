-- Layered models: `Model` and `Rank` are document 01 as definitions, `RowUse` has what the verdict's theorems speak of; the other files prove
-- what they say of each other.
pub mod Model
pub mod Rank
pub mod RowUse
pub mod Valid
pub mod Seating

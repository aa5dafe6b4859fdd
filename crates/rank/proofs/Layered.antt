-- What the definitions of layered models mean of each other, each file as its head says.
pub mod Meaning
pub mod Restricting
pub mod Duality
pub mod Assignments
pub mod Augmenting
pub mod Realise
pub mod Tight
pub mod Optimal
pub mod RankRows
pub mod ColumnOrder
pub mod Offers
pub mod Minimax
pub mod Verdicts

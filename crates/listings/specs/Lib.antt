-- Document 02, E7: blocks in solving order, and what is proved of them.
pub mod Offered
pub mod Blocks
pub mod Listings
pub mod BlockLaws
pub mod TightSets
pub mod Direct
pub mod Theorems
pub mod LaterBlocks

-- Document 02, E1: how a column depends on held columns, and what is proved of it.
pub mod Constants
pub mod Multipliers
pub mod Listing
pub mod ListingLaws
pub mod ConstantSide
pub mod MultiplierLaws
pub mod TableauLaws
pub mod PlainNumbers
pub mod Computed

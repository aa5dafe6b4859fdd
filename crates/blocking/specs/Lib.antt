-- Document 02, E2: the reason for an unplaced column, and what is proved of it.
pub mod Offering
pub mod Reason
pub mod OfferingLaws
pub mod ReasonLaws
pub mod ShortLaws
pub mod Computed

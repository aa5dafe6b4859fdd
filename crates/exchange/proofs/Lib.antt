pub mod AdmissionLaws
pub mod CellLaws
pub mod ScanningLaws
pub mod SearchingLaws
pub mod PivotLaws
pub mod HeldLaws
pub mod PlacingLaws
pub mod OfferingLaws
pub mod AnswerLaws
pub mod ArcLaws
pub mod ReachLaws
pub mod ReadingLaws
pub mod ReductionLaws
mod StateLaws

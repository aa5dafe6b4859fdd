-- The theorems on the reason for an unplaced column.
pub mod MultiplierLaws
pub mod Theorems

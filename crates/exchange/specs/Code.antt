-- What the code's arrays mean, and what its functions do to them.
pub mod Admission
pub mod Cells
pub mod PivotRows
pub mod Scanning
pub mod Searching
pub mod Held
pub mod State
pub mod Placing
pub mod Offering
pub mod Answer
pub mod Reading
pub mod Arcs
pub mod Reducing

-- Terms collected by their letters: which letters occur, and their coefficient, a determinant without letters on the rows and columns that stay.
pub mod Collecting
pub mod Terms
pub mod Taken
pub mod Coefficients
pub mod Minors
pub mod Constants

-- The determinant of a table without letters: row by row, as the signed sum over all arrangements, and as a test for independent columns.
pub mod Rows
pub mod Totals
pub mod Leibniz
pub mod Cofactors
pub mod Signs
pub mod Sorting
pub mod Minors

-- The count of parameter rows that touch a set of columns.
pub mod RowCount
pub mod RowCountLaws

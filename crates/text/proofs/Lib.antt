pub mod ColumnItems
pub mod Digits

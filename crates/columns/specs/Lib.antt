-- Sets of columns: Columns, ColumnSets and Bytes are what the contracts cite, Words holds their laws.
pub mod Bytes
pub mod Columns
pub mod ColumnSets
pub mod Turns
pub mod Words

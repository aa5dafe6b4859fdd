-- The laws of numbers as sets of columns, of the code's sets and of areas of parameter rows.
pub mod Bits
pub mod Operations
pub mod Halves
pub mod SetLaws
pub mod Bytes
pub mod Sets
pub mod Rows
pub mod WordOf

-- The starred bench models of document 01, as one table.
pub mod Table

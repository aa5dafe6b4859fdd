-- Relations between columns, and what their rows lead to.
pub mod Relations
pub mod RowLaws
pub mod Closures

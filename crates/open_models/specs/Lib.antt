-- Document 02, E5: the open model, its edits, and what is proved of them.
pub mod Open
pub mod RowLaws
pub mod Computed

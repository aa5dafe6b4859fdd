-- Document 01's mixed models; the mixed rank by its layered form, the mixed verdict, and the starred table.
pub mod Mixed
pub mod MixedRowUse
pub mod Starred
pub mod Computed

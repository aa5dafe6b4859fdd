-- Linear systems over any field: independent columns, fewer equations than unknowns, pivots.
pub mod Independence
pub mod Sums
pub mod Systems
pub mod Kernels
pub mod Tableaus

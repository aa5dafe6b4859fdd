-- The theorems on mixed models: the mixed rank by the layered form, the mixed verdict, and the starred table.
pub mod MixedTheorem
pub mod MixedVerdicts
pub mod Starred

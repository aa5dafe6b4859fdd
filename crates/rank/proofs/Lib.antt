-- The theorems on layered models: what document 01's definitions mean of each other, the duality, the column order, and demand 3.
pub mod Layered
pub mod IndependentLaws
pub mod ListedModelLaws
pub mod Demand
pub mod StepsReach
pub mod Theorems

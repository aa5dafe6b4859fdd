-- The graph of columns and rows: which column owns which row, routes to a free row, searches, closed sets.
pub mod States
pub mod Routes
pub mod Closed
pub mod Layers
pub mod Search
pub mod Augment

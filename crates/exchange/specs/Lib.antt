-- What the solver promises, and what the program's arrays mean.
pub mod Sizes
pub mod Solution
pub mod Solve
pub mod SolveLaws
pub mod DependenceCall
pub mod ReachCall
pub mod Reduction
pub mod Code

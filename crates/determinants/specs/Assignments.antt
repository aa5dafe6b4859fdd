-- A table of constants and letters: the orders of its square parts whose determinant is not zero are the sizes of its legal assignments.
pub mod Legal
pub mod FromDeterminant
pub mod ToDeterminant

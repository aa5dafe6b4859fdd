-- Arithmetic is what the contracts cite; the other files hold its laws, and Residues the field that the crates above know.
pub mod Arithmetic
pub mod Remainders
pub mod Primes
pub mod Inverses
pub mod Montgomery
pub mod Fields
pub mod Residues

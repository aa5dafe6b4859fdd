-- Document 02, E14: what the calls about the degree promise.
pub mod Shown
pub mod Answers
pub mod Bytes
pub mod Code
pub mod States

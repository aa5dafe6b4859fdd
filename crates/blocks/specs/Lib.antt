-- Document 02, E7: what the calls about blocks promise.
pub mod Shown
pub mod Answers
pub mod Bytes
pub mod Code

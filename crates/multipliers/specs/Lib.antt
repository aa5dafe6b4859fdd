-- What the calls about multipliers promise, and the bytes of their answers.
pub mod Shown
pub mod Answers
pub mod Bytes

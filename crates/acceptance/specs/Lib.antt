-- What the calls about a claim promise, and the bytes of a claim and of the answer.
pub mod Shown
pub mod Answers
pub mod Bytes
pub mod Code

-- What the calls about the reason for an unplaced column promise, and the bytes of their answers.
pub mod Shown
pub mod Answers
pub mod Bytes
pub mod Code

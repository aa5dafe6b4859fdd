-- Edits as the code has them, and what the calls on open models promise: handed over, and in areas of bytes.
pub mod Shown
pub mod Edits
pub mod Calls
pub mod Areas

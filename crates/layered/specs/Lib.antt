-- The model in a file, and what the layered rank call promises.
pub mod FileModel
pub mod Shown
pub mod Answers
pub mod Beforehand

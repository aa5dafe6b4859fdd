-- The limits of models, files and answers.
pub mod Limits

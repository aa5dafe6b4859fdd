-- What writing promises, and what is known of a model handed over to be written; the other definitions are those of crate format.
pub mod HandedLaws
pub mod FileWritten
pub mod Putting

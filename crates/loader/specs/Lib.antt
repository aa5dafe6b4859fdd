-- What reading promises, and that a row that is looked up is that row of the model; the other definitions are those of crate format.
pub mod LookupLaws
pub mod FileRead

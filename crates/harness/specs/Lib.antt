-- What the calls for models without a file promise.
pub mod Calls

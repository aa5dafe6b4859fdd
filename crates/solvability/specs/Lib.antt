-- What the calls for a host in C promise.
pub mod Host

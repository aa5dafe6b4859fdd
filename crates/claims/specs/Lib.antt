-- Document 02, E12: when a claim about a model is accepted, and what is proved of it.
pub mod Claim

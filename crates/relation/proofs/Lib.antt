-- Laws for the proofs.
pub mod ReachLaws
pub mod TurnLaws

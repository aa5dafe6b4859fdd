-- Laws for the proofs.
pub mod TurnLaws
pub mod NeedLaws
pub mod ListLaws
pub mod AnswerLaws

-- Laws for the proofs.
pub mod ListLaws
pub mod TopLaws
pub mod LevelLaws
pub mod TightLaws
pub mod RoundLaws
pub mod AnswerLaws
pub mod JudgementLaws
pub mod FileLaws

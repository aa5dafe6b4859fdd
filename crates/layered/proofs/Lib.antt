pub mod AnswerLaws
pub mod FileLaws

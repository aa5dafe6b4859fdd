pub mod QuestionLaws
pub mod AnswerLaws
pub mod FileLaws

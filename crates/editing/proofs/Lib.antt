-- Laws of edits, of the bytes of an open model, and of the calls on one in an area.
pub mod EditLaws
pub mod AreaLaws
pub mod EditAreaLaws
pub mod AnswerAreaLaws
pub mod OpenAreaLaws

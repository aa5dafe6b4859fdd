-- A call that lends an area, and the bytes of answers.
pub mod AreaCall
pub mod AnswerBytes

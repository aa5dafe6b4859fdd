-- What the mixed rank call promises, and the layered form as the code makes it.
pub mod Shown
pub mod MixedForm
pub mod MixedAnswers

pub mod MixedEntries
pub mod MixedAnswerLaws
pub mod MixedFileLaws
pub mod IdleRows

-- Laws of a model handed over and of the calls about it; of the bytes of sets and of edits.
pub mod CallLaws
pub mod OpenLaws

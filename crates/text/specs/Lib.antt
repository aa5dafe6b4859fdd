-- Text: what it says, and how it is put into an area.
pub mod Text
pub mod PutLaws
pub mod TextLaws
pub mod ReadLaws
pub mod TextExamples

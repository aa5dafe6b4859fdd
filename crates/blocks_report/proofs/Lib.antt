pub mod BlockColumns
pub mod Lines

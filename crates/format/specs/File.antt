-- The file: Piece, Format and Unnumbered are what a reader must believe; the others hold their laws.
pub mod Piece
pub mod Format
pub mod Unnumbered
pub mod RowSizes
pub mod Steps
pub mod PieceLaws
pub mod BodyLaws
pub mod FormatLaws
pub mod WriteLaws
pub mod UnnumberedLaws
mod Example

-- Document 01: lists, refusals and the file; with their laws and the readings of every refusal number.
pub mod Lists
pub mod ListLaws
pub mod OverLaws
pub mod Numbers
pub mod Refusals
pub mod Refused
pub mod RefusalLaws
pub mod TestLaws
pub mod File
pub mod NumberTable
pub mod NumberLaws
pub mod Readings

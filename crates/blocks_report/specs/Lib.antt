-- The report of the blocks of the model in a file.
pub mod BlocksReport
pub mod BlocksReportExamples

-- The text of a report, that of a file among them, and what is known of it.
pub mod Report
pub mod ReportLaws
pub mod ReportExamples
pub mod FileReport
pub mod FileReportLaws

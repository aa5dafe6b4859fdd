-- The report of the mixed question about a file.
pub mod MixedReport
pub mod MixedReportExamples

-- The report of the reason for an unplaced column of the model in a file.
pub mod ReasonReport
pub mod ReasonReportExamples

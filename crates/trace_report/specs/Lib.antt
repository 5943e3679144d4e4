pub mod ReportText
pub mod TraceText

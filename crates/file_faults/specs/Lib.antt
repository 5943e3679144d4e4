pub mod SourceFaults
pub mod Answers

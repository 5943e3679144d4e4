pub mod ComponentFaults
pub mod Answers

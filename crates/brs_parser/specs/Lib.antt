pub mod FaultPlace
pub mod Answer
pub mod Parsed

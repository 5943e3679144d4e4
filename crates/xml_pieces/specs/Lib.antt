pub mod Written
pub mod Names
pub mod Parts
pub mod Reading
pub mod Reads
pub mod Runs

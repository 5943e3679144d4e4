pub mod References
pub mod Taken

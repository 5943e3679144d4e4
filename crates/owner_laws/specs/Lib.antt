pub mod Owners
pub mod Isolated

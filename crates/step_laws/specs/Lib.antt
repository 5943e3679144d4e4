pub mod Counts
pub mod Isolation
pub mod Owners

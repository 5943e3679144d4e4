pub mod Registered
pub mod InTime

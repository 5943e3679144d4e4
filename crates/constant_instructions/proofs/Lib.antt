pub mod Giving
pub mod Pushing
pub mod Naming

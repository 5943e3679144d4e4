pub mod Naming
pub mod Moves
pub mod Steps
pub mod Calls

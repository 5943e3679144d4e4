pub mod Prints
pub mod Tails
pub mod Targets
pub mod Values

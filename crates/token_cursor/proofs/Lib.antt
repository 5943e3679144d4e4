pub mod Drops
pub mod Loops
pub mod Endings

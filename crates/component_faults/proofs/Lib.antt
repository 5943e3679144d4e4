pub mod Turns
pub mod Known
pub mod Repeats

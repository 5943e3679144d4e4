pub mod Characters
pub mod Basics
pub mod Values
pub mod Tags
pub mod Pieces
pub mod Distinct
pub mod Runs
pub mod Loops

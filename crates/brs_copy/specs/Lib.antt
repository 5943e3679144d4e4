pub mod Copies
pub mod Counts
pub mod Fits
pub mod Marks

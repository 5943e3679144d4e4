pub mod Fits
pub mod Bound

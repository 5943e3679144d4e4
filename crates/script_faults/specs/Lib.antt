pub mod Sources
pub mod Scripts
pub mod Functions
pub mod Rows
pub mod Named

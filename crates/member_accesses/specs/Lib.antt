pub mod Fields
pub mod Named
pub mod Reaching
pub mod Rows

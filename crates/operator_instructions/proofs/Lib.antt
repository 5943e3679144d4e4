pub mod Arguments
pub mod Rows
pub mod Applying

pub mod Values
pub mod Doing
pub mod Rows
pub mod Calls

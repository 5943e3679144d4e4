pub mod Ascending
pub mod Scopes
pub mod Rows
pub mod Tables

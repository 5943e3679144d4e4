pub mod Settled
pub mod Rows
pub mod Seen
pub mod Doing

pub mod Wrong
pub mod Members
pub mod Searches
pub mod Steps
pub mod Ways
pub mod Upward
pub mod Given
pub mod Judges

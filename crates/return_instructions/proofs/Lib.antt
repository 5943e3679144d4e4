pub mod Landings
pub mod Departing
pub mod Returning

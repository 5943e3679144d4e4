pub mod Actors
pub mod Receiving
pub mod Told

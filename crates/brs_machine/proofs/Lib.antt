pub mod Answering
pub mod Homes
pub mod Telling

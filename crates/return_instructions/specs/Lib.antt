pub mod Landed
pub mod Departed
pub mod Left

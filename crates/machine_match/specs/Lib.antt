pub mod Compiled
pub mod Places
pub mod Stands
pub mod Laws

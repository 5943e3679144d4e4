pub mod Appending
pub mod Below
pub mod Endings
pub mod Listed
pub mod Names
pub mod Parts

pub mod Below
pub mod SizeFaults
pub mod Manifest
pub mod Gathered
pub mod Answers

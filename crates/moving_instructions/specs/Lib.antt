pub mod Behind
pub mod Choices

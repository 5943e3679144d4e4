pub mod Unfolding
pub mod Bounded
pub mod Answers
pub mod Forms
pub mod Laying

pub mod Forming
pub mod Trees
pub mod Counting
pub mod Filling
pub mod Marking
pub mod Copying
pub mod Growing
pub mod Laying

pub mod Items
pub mod Marks
pub mod Prints

pub mod Gives
pub mod Takes
pub mod Parts
pub mod Expressions
pub mod Statements
pub mod Files

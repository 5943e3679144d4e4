pub mod Operands
pub mod Outcomes
pub mod Delivers
pub mod Table
pub mod Names

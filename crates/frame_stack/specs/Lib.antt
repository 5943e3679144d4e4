pub mod Operand
pub mod Layout
pub mod Frame
pub mod Cutting

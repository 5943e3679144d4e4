pub mod Instruction
pub mod Rule
pub mod Join

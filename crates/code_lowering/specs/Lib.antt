pub mod Lowered
pub mod Takes

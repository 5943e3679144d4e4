pub mod Table
pub mod Faults
pub mod First
pub mod Parts

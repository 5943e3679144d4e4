pub mod Words
pub mod Rules
pub mod Faults
pub mod Reading

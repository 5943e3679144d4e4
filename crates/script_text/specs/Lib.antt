pub mod Keys
pub mod Lines
pub mod Literals
pub mod Numbers

pub mod Places
pub mod Elements
pub mod Steps
pub mod Scan
pub mod ComponentGrammar

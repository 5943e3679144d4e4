pub mod Aside
pub mod Spelling

pub mod Earlier
pub mod NameLists
pub mod Forms
pub mod Walked
pub mod Files

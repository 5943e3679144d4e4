pub mod NamedLaws
pub mod Nodes
pub mod Objects

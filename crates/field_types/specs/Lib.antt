pub mod Words
pub mod Opening
pub mod Conversion
pub mod Attribute
pub mod NamedNodes
pub mod Elements
pub mod Plans

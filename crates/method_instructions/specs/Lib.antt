pub mod Callees
pub mod Operating
pub mod Calling
pub mod Refusing

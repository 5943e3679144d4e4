pub mod KeyText
pub mod Chain

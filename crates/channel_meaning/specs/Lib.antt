pub mod History
pub mod World
pub mod Report
pub mod RunText
pub mod Going

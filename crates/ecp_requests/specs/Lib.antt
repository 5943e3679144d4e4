pub mod Answers
pub mod EmptyLines
pub mod Heads
pub mod KeyLines
pub mod KeyNames
pub mod Replies
pub mod Targets

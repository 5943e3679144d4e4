pub mod Joins
pub mod KeyLists
pub mod MessageAnswers
pub mod MessageData
pub mod Told

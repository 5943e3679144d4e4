pub mod MessageLaws
pub mod DataLaws
pub mod CreateLaws
pub mod KeyListLaws
pub mod EntryCounts
pub mod JoinLaws

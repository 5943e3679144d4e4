pub mod DraftCode
pub mod TreeCode
pub mod StatementCode

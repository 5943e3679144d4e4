pub mod MemberCalls
pub mod MemberRows
pub mod Functions
pub mod BuiltIns
pub mod CallRows

pub mod Names
pub mod MethodLaws
pub mod MemberLaws
pub mod CallLaws

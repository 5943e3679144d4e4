pub mod OperandLaws
pub mod DeliverLaws

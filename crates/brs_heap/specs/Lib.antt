pub mod Kind
pub mod Content
pub mod Slots
pub mod Sound

pub mod Wraps
pub mod Carrying
pub mod Finding
pub mod Meaning
pub mod Effects
pub mod Beginning
pub mod Standing

pub mod Children
pub mod Places
pub mod Plans
pub mod Filling
pub mod Standing

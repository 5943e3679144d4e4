pub mod Upward
pub mod Chains

pub mod Chains
pub mod Dropping

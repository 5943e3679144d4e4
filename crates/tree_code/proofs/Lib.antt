pub mod Loops
pub mod Chains
pub mod Steps
pub mod Callees
pub mod Ends

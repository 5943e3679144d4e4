mod Stepping
mod PortableTrees

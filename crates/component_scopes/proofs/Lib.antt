pub mod FaultKinds

pub mod Moments
pub mod LawsOfRun

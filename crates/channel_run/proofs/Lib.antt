mod FirstExamples
pub mod FirstBodies
pub mod FirstRuns
pub mod FirstSteps
pub mod FirstTexts
pub mod FirstBounds
pub mod FolderReads
pub mod InputReads
pub mod Lines
pub mod LocalLemmas
pub mod FirstLive
pub mod Moves
pub mod Progress

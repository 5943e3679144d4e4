pub mod Words
pub mod DeclaredFunctions
pub mod FileFaults
pub mod Contents
pub mod Answers
pub mod FolderFaults

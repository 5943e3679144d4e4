mod ManifestExamples
pub mod Sizes
pub mod Gathering
pub mod Reading
pub mod ManifestLines
pub mod BadLines

mod FirstFormExamples
pub mod FirstRules
pub mod KnownNames
pub mod Loops
pub mod AsciiBytes
pub mod Meets

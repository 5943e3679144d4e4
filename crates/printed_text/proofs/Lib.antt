pub mod Characters
pub mod Copied
pub mod ItemLaws
pub mod Seen
pub mod MarkLaws

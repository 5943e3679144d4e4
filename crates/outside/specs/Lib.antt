pub mod Causes
pub mod Door
pub mod Folder
pub mod Place
pub mod Refusal
pub mod Status
pub mod Told

mod Examples
pub mod Lists
pub mod Tables
pub mod Tags
pub mod Found

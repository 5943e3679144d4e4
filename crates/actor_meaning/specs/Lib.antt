pub mod View
pub mod Showing
pub mod Promises
pub mod Performing
pub mod Performed
pub mod Laws

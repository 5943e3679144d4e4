pub mod Read
pub mod Plain

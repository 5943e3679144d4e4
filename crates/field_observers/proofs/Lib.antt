pub mod Maps
pub mod Times

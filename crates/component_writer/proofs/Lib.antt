pub mod Every
pub mod TagsLemmas
pub mod Good
pub mod Derived
pub mod Again
pub mod AsideLemmas
pub mod Whole
pub mod Joins

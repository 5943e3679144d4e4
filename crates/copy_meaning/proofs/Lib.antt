pub mod Unfolding
pub mod Answering
pub mod Likeness
pub mod Standing
pub mod Numbers
pub mod Round

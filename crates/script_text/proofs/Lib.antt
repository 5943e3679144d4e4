pub mod LinesLemmas
pub mod LiteralsLemmas
pub mod NumbersLemmas

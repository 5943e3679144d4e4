pub mod AnswersLemmas
pub mod EmptyLinesLemmas
pub mod HeadAnswers
pub mod HeadEnds
pub mod Later
pub mod NamesLemmas
pub mod TargetsLemmas

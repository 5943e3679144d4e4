pub mod FirstForm
pub mod FirstKnown
pub mod FirstNames
pub mod FirstReading
pub mod FirstSource
pub mod FirstStop
pub mod FirstTurns

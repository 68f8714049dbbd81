pub mod PositionLemmas
pub mod LineLemmas
pub mod WordLemmas
pub mod KnownValues
pub mod PlaceLemmas
pub mod StandLemmas
pub mod LawLemmas

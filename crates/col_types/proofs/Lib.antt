pub mod DerivedLemmas
pub mod NameLemmas
pub mod TypeLemmas
pub mod ZoneLemmas

pub mod WordLemmas
pub mod Rounding
pub mod WordQuotients
pub mod Scales

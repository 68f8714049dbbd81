pub mod Kinds
pub mod Seen
pub mod Slots
pub mod Columns
pub mod Casts
pub mod TickRule
pub mod Laws

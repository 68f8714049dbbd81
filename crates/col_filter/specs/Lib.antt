pub mod Filters
pub mod Nulls
pub mod Zips

pub mod Casts
pub mod Rows
pub mod Passed

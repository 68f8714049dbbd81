pub mod Columns
pub mod Rules

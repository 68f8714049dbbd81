pub mod Joining
pub mod Validity

pub mod Bits
pub mod Sums

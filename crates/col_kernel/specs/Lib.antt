pub mod Congruence
pub mod Slots
pub mod Kernels
pub mod WordLaws

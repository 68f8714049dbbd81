pub mod PairRule
pub mod Joined
pub mod Checked
pub mod ScalarForm
pub mod Coercion
pub mod Laws
pub mod Intervals

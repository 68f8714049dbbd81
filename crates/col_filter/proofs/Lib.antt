pub mod KeptLaws
pub mod ZipLaws
pub mod TestLaws

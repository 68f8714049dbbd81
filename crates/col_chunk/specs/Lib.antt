pub mod Chunks
pub mod Folds
pub mod Items

pub mod Pieces
pub mod WordLaws
pub mod MovedLaws
pub mod FoldLaws
pub mod TakeLaws
pub mod CursorLaws
pub mod StartLaws
pub mod ItemLaws

pub mod RunLaws
pub mod ByteLaws
pub mod ColumnLaws

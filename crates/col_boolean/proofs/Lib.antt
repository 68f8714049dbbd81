pub mod BitLaws
pub mod ColumnLaws
pub mod SumLaws

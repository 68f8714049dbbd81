pub mod TypeLemmas
pub mod ColumnLemmas
pub mod TableLemmas
pub mod CastLemmas
pub mod SlotLemmas
pub mod LawLemmas

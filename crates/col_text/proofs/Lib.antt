pub mod NumberLemmas
pub mod TickLemmas
pub mod FrontLemmas
pub mod TextLemmas
pub mod ChunkLemmas
pub mod SlotLemmas
pub mod LengthLemmas
pub mod ColumnLemmas
pub mod ExpressionLemmas
pub mod AnswerLemmas
pub mod RowLemmas
mod KnownValues

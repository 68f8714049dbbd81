pub mod TickLemmas
pub mod ColumnLemmas
pub mod CoercionLemmas
pub mod PairLemmas
pub mod LawLemmas

-- Columns of ticks: when they are valid, and that a call gives one where it gives the slots.
use Rattle.std.proofs.Common.{◌≡◌, ◌<◌, ◌^◌, ℤ, true, List, length, Option, None, Result, Ok, Err, ap, arith}
use Rattle.std.specs.List.{list_all}
use Rattle.std.proofs.lemmas.List.{take_all}
use Rattle.col_types.specs.declared.data_type.DataType.{DataType}
use Rattle.col_types.specs.PolarsError.{Gives, GivesBy, seen_by}
use Rattle.col_types.specs.declared.error.PolarsError.{PolarsError}
use Rattle.col_types.specs.declared.error.PolarsError.TheVariants as errors
use Rattle.col_model.specs.Chunked.{Chunked, column_of, in_one_chunk}
use Rattle.col_model.specs.Column.{Column}
use Rattle.col_model.specs.ColumnCalls.{first_unfit}
use Rattle.col_series.specs.Slots.{is_fit}
use Rattle.col_series.proofs.TypeLemmas.{none_unfit}

-- where no slot is refused, all are slots of the type, if there is room for them
pub unrefused_fit : (dtype : DataType) (slots : List (Option ℤ)) → length slots < 2 ^ 32 → first_unfit dtype slots ≡ None → list_all (is_fit dtype) slots ≡ true
unrefused_fit dtype slots short none = none_unfit dtype 0 slots (rw (take_all (2 ^ 32) slots (omega arith)) at none)

-- a call that gives a column in one chunk gives the column
pub gives_column : (result : Result Chunked PolarsError) (column : Column) → Gives result (Ok (in_one_chunk column)) → GivesBy column_of result (Ok column)
gives_column (Ok chunked) column h = ap (seen_by column_of) h
gives_column (Err errors.NoMemory) column h = tt
gives_column (Err refusal) column h = cc

-- so it is in any chunks
pub gives_chunked : (result : Result Chunked PolarsError) (chunked : Chunked) → Gives result (Ok chunked) → GivesBy column_of result (Ok chunked.column)
gives_chunked (Ok answer) chunked h = ap (seen_by column_of) h
gives_chunked (Err errors.NoMemory) chunked h = tt
gives_chunked (Err refusal) chunked h = cc

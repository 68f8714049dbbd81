-- How two columns come to common types before they meet.
use Rattle.std.specs.Prelude.{◌≡◌, ◌||◌, not, if◌then◌else◌, Bool, true, false, length}
use Rattle.std.specs.Prelude.{Option, Some, None, is_some, Result, Ok, Err}
use Rattle.std.specs.Option.{option_map}
use Rattle.col_types.specs.TimeUnit.{coarser_unit}
use Rattle.col_types.specs.DataType.{same_type}
use Rattle.col_types.specs.Supertype.{supertype_of}
use Rattle.col_types.specs.declared.data_type.DataType.{DataType, Date, Datetime, Duration}
use Rattle.col_types.specs.declared.cast_options.CastOptions.TheVariants.{NonStrict}
use Rattle.col_types.specs.declared.operator.BinOp.{BinOp}
use Rattle.col_types.specs.declared.operator.OpName.TheVariants.{Coerce}
use Rattle.col_types.specs.declared.error.PolarsError.{PolarsError}
use Rattle.col_model.specs.Broadcast.{broadcast_length}
use Rattle.col_model.specs.Column.{Column, is_built_type}
use Rattle.col_model.specs.CastTable.{cast_rule}
use Rattle.col_model.specs.Chunked.{Chunked, column_of}
use Rattle.col_model.specs.ColumnCalls.{cast_column}
use Rattle.col_model.specs.OperatorTable.{OperatorRule, operator_rule}
use Rattle.col_model.specs.OperationNames.{name_of_op, unsupported}
use Rattle.col_model.specs.OperatorCalls.{binary_by}

-- both with the type
abbrev pub both : DataType → DataType × DataType
both dtype = (dtype, dtype)

-- the types to which two types come, or none: with a length of time each keeps its own, in the
-- coarser unit
abbrev pub coerced_types : DataType → DataType → Option (DataType × DataType)
coerced_types (Datetime u y) (Duration v) =
    let w = coarser_unit u v in Some (Datetime w y, Duration w)
coerced_types (Duration u) (Datetime v z) =
    let w = coarser_unit u v in Some (Duration w, Datetime w z)
coerced_types (Duration u) (Duration v) = Some (both (Duration (coarser_unit u v)))
coerced_types Date (Duration v) = Some (Date, Duration v)
coerced_types (Duration u) Date = Some (Duration u, Date)
coerced_types left right = option_map both (supertype_of left right)

-- a column in the type, a value null that has no room there
abbrev pub cast_to : Column → DataType → Column
cast_to column target = cast_column column target NonStrict

-- the columns of two alone, whatever their chunks
abbrev pub columns_of_both : Chunked × Chunked → Column × Column
columns_of_both chunked = (column_of chunked.0, column_of chunked.1)

-- a cast leads from the one type to the other, and a column can have it
pub record CanCast (from to : DataType) : Type 0 where
  pub built : is_built_type to ≡ true
  pub listed : is_some (cast_rule from to NonStrict) ≡ true

-- the columns in these types, or that there are none
abbrev pub coerced_to : Column → Column → Option (DataType × DataType) →
    Result (Column × Column) PolarsError
coerced_to left right None = Err (unsupported Coerce left.dtype right.dtype)
coerced_to left right (Some types) = Ok (cast_to left types.0, cast_to right types.1)

-- two columns of common types, or why there are none
abbrev pub coerced_of : Column → Column → Result (Column × Column) PolarsError
coerced_of left right = coerced_to left right (coerced_types left.dtype right.dtype)

-- ---- operators between columns of common types

-- whether coercion gives one of the two another type
abbrev pub changes_type : DataType → DataType → Option (DataType × DataType) → Bool
changes_type left right None = false
changes_type left right (Some types) = not (same_type types.0 left) || not (same_type types.1 right)

-- the rule for an operator and two types that coercion leaves as they are, or that have no common
-- types; types that coercion would change are refused
abbrev pub uncoerced_rule : BinOp → DataType → DataType → Result OperatorRule PolarsError
uncoerced_rule op left right =
    if changes_type left right (coerced_types left right)
    then Err (unsupported (name_of_op op) left right)
    else operator_rule op left right

-- two columns joined by an operator, or why they are not
abbrev pub uncoerced_of : BinOp → Column → Column → Result Column PolarsError
uncoerced_of op left right =
    binary_by left right (broadcast_length (length left.slots) (length right.slots))
    (uncoerced_rule op left.dtype right.dtype)

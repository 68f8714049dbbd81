-- Kinds of types that are not temporal.
use Rattle.std.specs.Prelude.{Bool, true, false}
use Rattle.col_types.specs.declared.data_type.DataType.{DataType, Int64}

-- whether a type is that of integers of 64 bits
abbrev pub is_int64 : DataType → Bool
is_int64 Int64 = true
is_int64 _ = false

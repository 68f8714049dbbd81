-- The answers of a cast, by the rule of the table.
use Rattle.std.specs.Prelude.{ℤ, map, Option, Some, None, is_some, Result, Ok, Err}
use Rattle.std.specs.Prelude.{if◌then◌else◌}
use Rattle.std.specs.List.{list_any}
use Rattle.col_types.specs.DataType.{kind_of}
use Rattle.col_types.specs.declared.data_type.DataType.{DataType}
use Rattle.col_types.specs.declared.cast_options.CastOptions.{CastOptions}
use Rattle.col_types.specs.declared.is_sorted.IsSorted.TheVariants.{Not}
use Rattle.col_types.specs.declared.error.PolarsError.{PolarsError}
use Rattle.col_types.specs.declared.error.PolarsError.TheVariants as errors
use Rattle.col_model.specs.Value.{on_slot}
use Rattle.col_model.specs.Column.{Column}
use Rattle.col_model.specs.Formula.{Formula, value_of}
use Rattle.col_model.specs.CastTable.{CastRule}
use Rattle.col_model.specs.ColumnCalls.{first_lost, strict_refusal, unless_refused}
use Rattle.col_rule.specs.Columns.{mapped_column}

-- the column in a type by a formula, or why a strict cast is refused
abbrev pub cast_by : CastOptions → Formula → DataType → Column → Result Column PolarsError
cast_by options formula target column =
    let f : ℤ → Option ℤ = λ x. value_of formula x x in
    unless_refused (strict_refusal options (first_lost (on_slot f) 0 column.slots))
    (mapped_column f target column)

-- the nulls of a column in a type to which no cast leads; a valid slot is refused
abbrev pub cast_nulls : DataType → Column → Result Column PolarsError
cast_nulls target column =
    if list_any is_some column.slots
    then Err (errors.CastPair (kind_of column.dtype) (kind_of target))
    else Ok (record column { dtype = target; slots = map (λ slot. None) column.slots; flag = Not })

-- the column in a type, by the rule of the table or without one
abbrev pub cast_under : CastOptions → Option CastRule → DataType → Column →
    Result Column PolarsError
cast_under options None target column = cast_nulls target column
cast_under options (Some rule) target column = cast_by options rule.formula target column

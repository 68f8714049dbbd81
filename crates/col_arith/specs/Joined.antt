-- Two columns under a formula.
use Rattle.std.specs.Prelude.{◌≡◌, true, List, length, Option, Result, Ok}
use Rattle.col_types.specs.declared.data_type.DataType.{DataType}
use Rattle.col_types.specs.declared.error.PolarsError.{PolarsError}
use Rattle.col_model.specs.Value.{Value}
use Rattle.col_model.specs.Broadcast.{broadcast_length}
use Rattle.col_model.specs.Column.{Column}
use Rattle.col_model.specs.Formula.{Formula}
use Rattle.col_model.specs.OperatorCalls.{binary_by}
use Rattle.col_logical.specs.Logical.{lie_in_the_day}

-- the column of the type that two columns give under a formula, or that their lengths don't fit
-- each other
abbrev pub joined_by : Formula → DataType → Column → Column → Result Column PolarsError
joined_by formula dtype left right =
    binary_by left right (broadcast_length (length left.slots) (length right.slots))
    (Ok (record { dtype = dtype; formula = formula }))

-- the words of the type have no bound of their own
abbrev pub HasNoBound : DataType → Type 0
HasNoBound dtype = (slots : List (Option Value)) → lie_in_the_day dtype slots ≡ true

-- The plan that the columns themselves give: from the slots of the inputs upwards.
use Rattle.std.specs.Prelude.{ℕ, Bool, ◌&&◌, int_le, List, [], ◌∷◌, ◌++◌, Option, Some, None}
use Rattle.std.specs.Prelude.{slice_get, if◌then◌else◌}
use Rattle.std.specs.Int.{int_min, int_max}
use Rattle.col_types.specs.declared.data_type.DataType.{DataType}
use Rattle.col_model.specs.Arithmetic.{Interval}
use Rattle.col_model.specs.Value.{Value, Flat, Nested, Whole, Bytes}
use Rattle.col_model.specs.Column.{Column}
use Rattle.col_expr.specs.Tree.{Tree, Input, Cast, Binary, ScalarRight, ScalarLeft, InUnit, Shift}
use Rattle.col_expr.specs.Numbers.{Numbers, number_at, below, left_of, right_of, numbers_from}
use Rattle.col_expr.specs.Meaning.{dtype_of}
use Rattle.col_expr.specs.Plan.{Plan, formula_for, bound_by, image_by, fits_type}

-- an interval and one more slot: its integer lies in it too
abbrev pub widened : Option Interval → Option Value → Option Interval
widened range None = range
widened None (Some (Flat (Whole x))) = Some (record { low = x; high = x })
widened (Some p) (Some (Flat (Whole x))) =
    Some (record { low = int_min p.low x; high = int_max p.high x })
widened range (Some (Flat (Bytes bytes))) = range
widened range (Some (Nested leaves)) = range

-- from the least to the greatest integer of the slots and of an interval
abbrev pub widened_by : Option Interval → List (Option Value) → Option Interval
widened_by range [] = range
widened_by range (slot ∷ slots) = widened_by (widened range slot) slots

-- from the least to the greatest valid slot, none where there is no column or no valid slot
abbrev pub spanned_by : Option Column → Option Interval
spanned_by None = None
spanned_by (Some column) = widened_by None column.slots

-- whether the interval has an integer, and lies in the values of a type whose nodes can be covered
abbrev pub is_fit : Option DataType → Interval → Bool
is_fit dtype range = fits_type dtype range && int_le range.low range.high

-- the interval, where it is such a one
abbrev pub fitting : Option DataType → Option Interval → Option Interval
fitting dtype None = None
fitting dtype (Some range) = if is_fit dtype range then Some range else None

-- the interval that is found for a node: of an input from its slots, of another from what is found
-- for its operands, or else from their types
abbrev pub found_interval : List Column → Tree → Option Interval
found_interval inputs (Input index) =
    fitting (dtype_of inputs (Input index)) (spanned_by (slice_get inputs index))
found_interval inputs (Cast operand target options) =
    let bound = bound_by (found_interval inputs operand) (dtype_of inputs operand) in
    fitting (dtype_of inputs (Cast operand target options))
    (image_by (formula_for inputs (Cast operand target options)) bound bound)
found_interval inputs (Binary op left right) =
    fitting (dtype_of inputs (Binary op left right))
    (image_by (formula_for inputs (Binary op left right))
    (bound_by (found_interval inputs left) (dtype_of inputs left))
    (bound_by (found_interval inputs right) (dtype_of inputs right)))
found_interval inputs (ScalarRight operand op k) =
    let bound = bound_by (found_interval inputs operand) (dtype_of inputs operand) in
    fitting (dtype_of inputs (ScalarRight operand op k))
    (image_by (formula_for inputs (ScalarRight operand op k)) bound bound)
found_interval inputs (ScalarLeft k op operand) =
    let bound = bound_by (found_interval inputs operand) (dtype_of inputs operand) in
    fitting (dtype_of inputs (ScalarLeft k op operand))
    (image_by (formula_for inputs (ScalarLeft k op operand)) bound bound)
found_interval inputs (InUnit operand unit) =
    let bound = bound_by (found_interval inputs operand) (dtype_of inputs operand) in
    fitting (dtype_of inputs (InUnit operand unit))
    (image_by (formula_for inputs (InUnit operand unit)) bound bound)
found_interval inputs (Shift operand periods) =
    fitting (dtype_of inputs (Shift operand periods))
    (bound_by (found_interval inputs operand) (dtype_of inputs operand))

-- what a plan has for a node with this interval or none
abbrev pub entry_for : ℕ → Option Interval → Plan
entry_for node None = []
entry_for node (Some range) = (node, range) ∷ []

-- the intervals that are found for a tree, in postfix order
abbrev pub found_from : List Column → Numbers → Tree → Plan
found_from inputs numbers (Input index) =
    entry_for (number_at numbers) (found_interval inputs (Input index))
found_from inputs numbers (Cast operand target options) =
    found_from inputs (below numbers) operand
    ++ entry_for (number_at numbers) (found_interval inputs (Cast operand target options))
found_from inputs numbers (Binary op left right) =
    found_from inputs (left_of numbers) left ++ (found_from inputs (right_of numbers) right
    ++ entry_for (number_at numbers) (found_interval inputs (Binary op left right)))
found_from inputs numbers (ScalarRight operand op k) =
    found_from inputs (below numbers) operand
    ++ entry_for (number_at numbers) (found_interval inputs (ScalarRight operand op k))
found_from inputs numbers (ScalarLeft k op operand) =
    found_from inputs (below numbers) operand
    ++ entry_for (number_at numbers) (found_interval inputs (ScalarLeft k op operand))
found_from inputs numbers (InUnit operand unit) =
    found_from inputs (below numbers) operand
    ++ entry_for (number_at numbers) (found_interval inputs (InUnit operand unit))
found_from inputs numbers (Shift operand periods) =
    found_from inputs (below numbers) operand
    ++ entry_for (number_at numbers) (found_interval inputs (Shift operand periods))

-- the plan that is found for an expression
abbrev pub found_plan : List Column → Tree → Plan
found_plan inputs tree = found_from inputs (numbers_from 0 tree) tree

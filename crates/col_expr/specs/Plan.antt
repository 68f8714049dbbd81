-- Plans: intervals for nodes, and the rule that each covered node has to keep.
use Rattle.std.specs.Prelude.{ℕ, ℤ, Bool, true, false, ◌&&◌, nat_le, nat_lt, List, Option, Some}
use Rattle.std.specs.Prelude.{None, slice_get, if◌then◌else◌}
use Rattle.std.specs.List.{list_all}
use Rattle.std.specs.Option.{option_map, option_and_then}
use Rattle.std.specs.Ordering.{nat_cmp}
use Rattle.std.specs.Map.{lookup}
use Rattle.std.specs.BTreeMap.{is_at, insert_entry}
use Rattle.col_types.specs.declared.data_type.DataType.{DataType, Boolean}
use Rattle.col_model.specs.Arithmetic.{Interval, is_inside, WordType, word_bits}
use Rattle.col_model.specs.Value.{Value}
use Rattle.col_model.specs.Column.{Column, physical_word, values_of, is_value_in}
use Rattle.col_model.specs.Formula.{Formula, on_intervals, interval_of}
use Rattle.col_model.specs.CastTable.{CastRule}
use Rattle.col_model.specs.OperatorTable.{OperatorRule}
use Rattle.col_expr.specs.Tree.{Tree, Input, Cast, Binary, ScalarRight, ScalarLeft, InUnit, Shift}
use Rattle.col_expr.specs.Tree.{node_count}
use Rattle.col_expr.specs.Numbers.{Numbers, number_at, below, left_of, right_of, numbers_from}
use Rattle.col_expr.specs.Meaning.{dtype_of, cast_rule_for, operator_rule_for}
use Rattle.col_expr.specs.Meaning.{scalar_right_rule_for, scalar_left_rule_for}
use Rattle.col_expr.specs.Meaning.{unit_change_rule_for, is_scalar_for}

-- ---- plans

-- the intervals of the covered nodes by their numbers, which ascend
abbrev pub Plan : Type 0
Plan = List (ℕ × Interval)

-- the interval of the node of this number, none where it isn't covered
abbrev pub interval_in : Plan → ℕ → Option Interval
interval_in plan node = lookup (is_at (nat_cmp node)) plan

-- the plan with this interval for the node, in place of an older one
abbrev pub covering : Plan → ℕ → Interval → Plan
covering plan node range = insert_entry nat_cmp plan node range

-- ---- where the slots of a node lie

-- the formula of a cast's rule
abbrev pub cast_formula : Option CastRule → Option Formula
cast_formula rule = option_map (λ (r : CastRule). r.formula) rule

-- the formula of another rule
abbrev pub rule_formula : Option OperatorRule → Option Formula
rule_formula rule = option_map (λ (r : OperatorRule). r.formula) rule

-- the formula of a rule for an integer that the operand's word has
abbrev pub scalar_formula : Option DataType → ℤ → Option OperatorRule → Option Formula
scalar_formula dtype k rule = if is_scalar_for dtype k then rule_formula rule else None

-- the formula of a node in the slots of its operands, none where no table has a rule; inputs and
-- shifts have none
abbrev pub formula_for : List Column → Tree → Option Formula
formula_for inputs (Input index) = None
formula_for inputs (Cast operand target options) =
    cast_formula (cast_rule_for (dtype_of inputs operand) target options)
formula_for inputs (Binary op left right) =
    rule_formula (operator_rule_for op (dtype_of inputs left) (dtype_of inputs right))
formula_for inputs (ScalarRight operand op k) =
    scalar_formula (dtype_of inputs operand) k
    (scalar_right_rule_for (dtype_of inputs operand) op k)
formula_for inputs (ScalarLeft k op operand) =
    scalar_formula (dtype_of inputs operand) k (scalar_left_rule_for k op (dtype_of inputs operand))
formula_for inputs (InUnit operand unit) =
    rule_formula (unit_change_rule_for (dtype_of inputs operand) unit)
formula_for inputs (Shift operand periods) = None

-- the interval of the plan, or else the values of the type
abbrev pub bound_by : Option Interval → Option DataType → Option Interval
bound_by (Some range) dtype = Some range
bound_by None dtype = option_and_then values_of dtype

-- where the slots of a node lie, by the plan or else by its type
abbrev pub bound_of : List Column → Plan → Numbers → Tree → Option Interval
bound_of inputs plan numbers tree =
    bound_by (interval_in plan (number_at numbers)) (dtype_of inputs tree)

-- the interval of a formula over operands with these bounds, none where anything is missing
abbrev pub image_by : Option Formula → Option Interval → Option Interval → Option Interval
image_by None left right = None
image_by (Some formula) left right = on_intervals (interval_of formula) left right

-- where the slots of a node lie by the bounds of its operands; inputs have none
abbrev pub image_of : List Column → Plan → Numbers → Tree → Option Interval
image_of inputs plan numbers (Input index) = None
image_of inputs plan numbers (Cast operand target options) =
    image_by (formula_for inputs (Cast operand target options))
    (bound_of inputs plan (below numbers) operand) (bound_of inputs plan (below numbers) operand)
image_of inputs plan numbers (Binary op left right) =
    image_by (formula_for inputs (Binary op left right))
    (bound_of inputs plan (left_of numbers) left) (bound_of inputs plan (right_of numbers) right)
image_of inputs plan numbers (ScalarRight operand op k) =
    image_by (formula_for inputs (ScalarRight operand op k))
    (bound_of inputs plan (below numbers) operand) (bound_of inputs plan (below numbers) operand)
image_of inputs plan numbers (ScalarLeft k op operand) =
    image_by (formula_for inputs (ScalarLeft k op operand))
    (bound_of inputs plan (below numbers) operand) (bound_of inputs plan (below numbers) operand)
image_of inputs plan numbers (InUnit operand unit) =
    image_by (formula_for inputs (InUnit operand unit))
    (bound_of inputs plan (below numbers) operand) (bound_of inputs plan (below numbers) operand)
image_of inputs plan numbers (Shift operand periods) =
    bound_of inputs plan (below numbers) operand

-- ---- the rule of a covered node

-- whether the interval is there and lies in the other
abbrev pub is_image_inside : Interval → Option Interval → Bool
is_image_inside range None = false
is_image_inside range (Some image) = is_inside range image

-- whether the interval lies in the one that is there
abbrev pub is_inside_of : Option Interval → Interval → Bool
is_inside_of None inner = false
is_inside_of (Some range) inner = is_inside range inner

-- whether there is a word, of at most 64 bits
abbrev pub is_narrow : Option WordType → Bool
is_narrow None = false
is_narrow (Some word) = nat_le (word_bits word) 64

-- whether a node of the type can be covered: its slots are booleans or integers of at most 64 bits
abbrev pub is_coverable : DataType → Bool
is_coverable Boolean = true
is_coverable dtype = is_narrow (physical_word dtype)

-- whether there is a type, of a node that can be covered, and the interval lies in its values
abbrev pub fits_type : Option DataType → Interval → Bool
fits_type None range = false
fits_type (Some dtype) range = is_coverable dtype && is_inside_of (values_of dtype) range

-- whether a slot is null or an integer of the interval
abbrev pub is_slot_within : Interval → Option Value → Bool
is_slot_within range None = true
is_slot_within range (Some value) = is_value_in (Some range) value

-- whether there is a column, and each of its valid slots lies in the interval
abbrev pub is_column_within : Interval → Option Column → Bool
is_column_within range None = false
is_column_within range (Some column) = list_all (is_slot_within range) column.slots

-- whether the slots of a node are known to lie in the interval
abbrev pub is_kept_within : List Column → Plan → Numbers → Tree → Interval → Bool
is_kept_within inputs plan numbers (Input index) range =
    is_column_within range (slice_get inputs index)
is_kept_within inputs plan numbers tree range =
    is_image_inside range (image_of inputs plan numbers tree)

-- whether the rule of a node holds for the interval that the plan has for it, if it has one
abbrev pub keeps_rule : List Column → Plan → Numbers → Tree → Option Interval → Bool
keeps_rule inputs plan numbers tree None = true
keeps_rule inputs plan numbers tree (Some range) =
    fits_type (dtype_of inputs tree) range && is_kept_within inputs plan numbers tree range

-- the same, for the interval of the plan
abbrev pub rule_holds : List Column → Plan → Numbers → Tree → Bool
rule_holds inputs plan numbers tree =
    keeps_rule inputs plan numbers tree (interval_in plan (number_at numbers))

-- whether the rule holds of each node
abbrev pub rules_hold : List Column → Plan → Numbers → Tree → Bool
rules_hold inputs plan numbers (Input index) = rule_holds inputs plan numbers (Input index)
rules_hold inputs plan numbers (Cast operand target options) =
    rules_hold inputs plan (below numbers) operand
    && rule_holds inputs plan numbers (Cast operand target options)
rules_hold inputs plan numbers (Binary op left right) =
    rules_hold inputs plan (left_of numbers) left
    && (rules_hold inputs plan (right_of numbers) right
    && rule_holds inputs plan numbers (Binary op left right))
rules_hold inputs plan numbers (ScalarRight operand op k) =
    rules_hold inputs plan (below numbers) operand
    && rule_holds inputs plan numbers (ScalarRight operand op k)
rules_hold inputs plan numbers (ScalarLeft k op operand) =
    rules_hold inputs plan (below numbers) operand
    && rule_holds inputs plan numbers (ScalarLeft k op operand)
rules_hold inputs plan numbers (InUnit operand unit) =
    rules_hold inputs plan (below numbers) operand
    && rule_holds inputs plan numbers (InUnit operand unit)
rules_hold inputs plan numbers (Shift operand periods) =
    rules_hold inputs plan (below numbers) operand
    && rule_holds inputs plan numbers (Shift operand periods)

-- whether each covered number is less than this
abbrev pub ends_before : Plan → ℕ → Bool
ends_before plan count = list_all (λ covered. nat_lt covered.0 count) plan

-- whether each covered number is one of a node, and the rule of each covered node holds
abbrev pub is_plan_valid : List Column → Plan → Tree → Bool
is_plan_valid inputs plan tree =
    rules_hold inputs plan (numbers_from 0 tree) tree && ends_before plan (node_count tree)

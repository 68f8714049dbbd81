-- The tree that is evaluated in an expression's place: casts from unit to unit are joined, and a
-- cast to a finer unit and back is left out where a valid plan covers it.
use Rattle.std.specs.Prelude.{ℕ, Bool, true, false, ◌&&◌, List, [], is_some, Option, Some}
use Rattle.std.specs.Prelude.{None, if◌then◌else◌}
use Rattle.col_types.specs.DataType.{is_expression_target, same_type}
use Rattle.col_types.specs.declared.data_type.DataType.{DataType, Datetime, Duration}
use Rattle.col_types.specs.declared.cast_options.CastOptions.{CastOptions}
use Rattle.col_types.specs.declared.cast_options.CastOptions.TheVariants.{Strict, NonStrict}
use Rattle.col_types.specs.declared.cast_options.CastOptions.TheVariants.{Overflowing}
use Rattle.col_model.specs.declared.ticks.UnitChange.{UnitChange}
use Rattle.col_model.specs.declared.ticks.UnitChange.TheVariants.{Finer, Coarser}
use Rattle.col_model.specs.UnitChange.{unit_change}
use Rattle.col_model.specs.Column.{Column}
use Rattle.col_expr.specs.Tree.{Tree, Input, Cast, Binary, ScalarRight, ScalarLeft, InUnit, Shift}
use Rattle.col_expr.specs.Numbers.{Numbers, Over, Join, number_at, below, left_of, right_of}
use Rattle.col_expr.specs.Numbers.{numbers_from}
use Rattle.col_expr.specs.Meaning.{dtype_of}
use Rattle.col_expr.specs.Plan.{Plan, interval_in, is_plan_valid}

-- ---- casts between units

-- the change of unit between two types of moments, or two of lengths; no other two types have one
abbrev pub unit_step : DataType → DataType → Option UnitChange
unit_step (Datetime from _) (Datetime to _) = Some (unit_change from to)
unit_step (Duration from) (Duration to) = Some (unit_change from to)
unit_step _ _ = None

-- the same, where no cast with these options is refused or wraps, and the target is a good one
abbrev pub unit_step_by : CastOptions → DataType → DataType → Option UnitChange
unit_step_by Strict from target = None
unit_step_by NonStrict from target =
    if is_expression_target target then unit_step from target else None
unit_step_by Overflowing from target = None

-- the same, where the operand has a type
abbrev pub unit_step_for : CastOptions → Option DataType → DataType → Option UnitChange
unit_step_for options None target = None
unit_step_for options (Some from) target = unit_step_by options from target

-- the change of unit that a node makes of its operand, if it does that and no more
abbrev pub step_of : List Column → Tree → Option UnitChange
step_of inputs (Cast operand target options) =
    unit_step_for options (dtype_of inputs operand) target
step_of inputs _ = None

-- whether two steps, one after the other, both lead to finer units or both to coarser ones
abbrev pub goes_on : Option UnitChange → Option UnitChange → Bool
goes_on (Some (Finer m)) (Some (Finer n)) = true
goes_on (Some (Coarser m)) (Some (Coarser n)) = true
goes_on _ _ = false

-- whether the first step leads to a finer unit, and the second to a coarser one
abbrev pub turns_back : Option UnitChange → Option UnitChange → Bool
turns_back (Some (Finer m)) (Some (Coarser n)) = true
turns_back _ _ = false

-- ---- folding

-- a tree and the numbers of its nodes
pub record Numbered : Type 0 where
  pub tree : Tree
  pub numbers : Numbers

-- what stands under a cast
abbrev pub cast_operand : Tree → Tree
cast_operand (Cast operand target options) = operand
cast_operand tree = tree

-- the same, with its numbers
abbrev pub under_cast : Numbered → Numbered
under_cast cast = record { tree = cast_operand cast.tree; numbers = below cast.numbers }

-- a cast of this number over an operand
abbrev pub cast_over : ℕ → Numbered → DataType → CastOptions → Numbered
cast_over node operand target options =
    record { tree = Cast operand.tree target options; numbers = Over node operand.numbers }

-- whether there is a type, and it is this one
abbrev pub is_type : Option DataType → DataType → Bool
is_type None dtype = false
is_type (Some from) dtype = same_type from dtype

-- whether the plan covers the node of this number
abbrev pub is_covered : Plan → ℕ → Bool
is_covered plan node = is_some (interval_in plan node)

-- what a cast stands over: where both it and its operand are steps and go on, what the operand
-- stands over
abbrev pub joined_operand : List Column → Numbered → DataType → CastOptions → Numbered
joined_operand inputs operand target options =
    if goes_on (step_of inputs operand.tree) (step_of inputs (Cast operand.tree target options))
    then under_cast operand
    else operand

-- a cast of this number over an operand; where it turns back a covered one to the type from which
-- that one led, what both stand over
abbrev pub turned_cast : List Column → Plan → ℕ → Numbered → DataType → CastOptions → Numbered
turned_cast inputs plan node operand target options =
    if turns_back (step_of inputs operand.tree) (step_of inputs (Cast operand.tree target options))
    && is_type (dtype_of inputs (cast_operand operand.tree)) target
    && is_covered plan (number_at operand.numbers)
    then under_cast operand
    else cast_over node operand target options

-- a cast over an operand that is folded: first joined, then turned
abbrev pub fold_cast : List Column → Plan → ℕ → Numbered → DataType → CastOptions → Numbered
fold_cast inputs plan node operand target options =
    turned_cast inputs plan node (joined_operand inputs operand target options) target options

-- a tree with these numbers, folded from the operands upwards by a plan that holds
abbrev pub folded_by : List Column → Plan → Numbers → Tree → Numbered
folded_by inputs plan numbers (Input index) =
    record { tree = Input index; numbers = numbers }
folded_by inputs plan numbers (Cast operand target options) =
    fold_cast inputs plan (number_at numbers) (folded_by inputs plan (below numbers) operand)
    target options
folded_by inputs plan numbers (Binary op left right) =
    let first = folded_by inputs plan (left_of numbers) left in
    let second = folded_by inputs plan (right_of numbers) right in
    record {
      tree = Binary op first.tree second.tree;
      numbers = Join (number_at numbers) first.numbers second.numbers;
    }
folded_by inputs plan numbers (ScalarRight operand op k) =
    let folded = folded_by inputs plan (below numbers) operand in
    record {
      tree = ScalarRight folded.tree op k;
      numbers = Over (number_at numbers) folded.numbers;
    }
folded_by inputs plan numbers (ScalarLeft k op operand) =
    let folded = folded_by inputs plan (below numbers) operand in
    record {
      tree = ScalarLeft k op folded.tree;
      numbers = Over (number_at numbers) folded.numbers;
    }
folded_by inputs plan numbers (InUnit operand unit) =
    let folded = folded_by inputs plan (below numbers) operand in
    record {
      tree = InUnit folded.tree unit;
      numbers = Over (number_at numbers) folded.numbers;
    }
folded_by inputs plan numbers (Shift operand periods) =
    let folded = folded_by inputs plan (below numbers) operand in
    record {
      tree = Shift folded.tree periods;
      numbers = Over (number_at numbers) folded.numbers;
    }

-- the plan, or one that covers no node where it isn't valid
abbrev pub plan_if : Bool → Plan → Plan
plan_if true plan = plan
plan_if false plan = []

-- the folded tree of an expression; a refused node keeps its number in the whole tree
abbrev pub folded : List Column → Plan → Tree → Numbered
folded inputs plan tree =
    folded_by inputs (plan_if (is_plan_valid inputs plan tree) plan) (numbers_from 0 tree) tree

-- What a valid plan promises, and that the plan which is found is valid.
use Rattle.std.specs.Prelude.{◌≡◌, ℕ, ℤ, true, List, [], ◌∷◌, ◌++◌, Option, Some, None}
use Rattle.std.specs.List.{All}
use Rattle.col_model.specs.Arithmetic.{Interval}
use Rattle.col_model.specs.Value.{Value, whole, on_slots}
use Rattle.col_model.specs.Column.{Column, IsValidColumn, is_value_in}
use Rattle.col_model.specs.Formula.{Formula, exact_value_of}
use Rattle.col_model.specs.Broadcast.{operand_row}
use Rattle.col_expr.specs.Tree.{Tree, Input, Cast, Binary, ScalarRight, ScalarLeft, InUnit, Shift}
use Rattle.col_expr.specs.Numbers.{Numbers, number_at, below, left_of, right_of, numbers_from}
use Rattle.col_expr.specs.Built.{is_built_tree}
use Rattle.col_expr.specs.Meaning.{slot_at, row_count}
use Rattle.col_expr.specs.Plan.{Plan, interval_in, formula_for, is_plan_valid}
use Rattle.col_expr.specs.FoundPlan.{found_plan}

-- each node of a tree with its numbers, in postfix order
abbrev pub numbered_nodes : Numbers → Tree → List (Numbers × Tree)
numbered_nodes numbers (Input index) = (numbers, Input index) ∷ []
numbered_nodes numbers (Cast operand target options) =
    numbered_nodes (below numbers) operand ++ (numbers, Cast operand target options) ∷ []
numbered_nodes numbers (Binary op left right) =
    numbered_nodes (left_of numbers) left
    ++ (numbered_nodes (right_of numbers) right ++ (numbers, Binary op left right) ∷ [])
numbered_nodes numbers (ScalarRight operand op k) =
    numbered_nodes (below numbers) operand ++ (numbers, ScalarRight operand op k) ∷ []
numbered_nodes numbers (ScalarLeft k op operand) =
    numbered_nodes (below numbers) operand ++ (numbers, ScalarLeft k op operand) ∷ []
numbered_nodes numbers (InUnit operand unit) =
    numbered_nodes (below numbers) operand ++ (numbers, InUnit operand unit) ∷ []
numbered_nodes numbers (Shift operand periods) =
    numbered_nodes (below numbers) operand ++ (numbers, Shift operand periods) ∷ []

-- the slots that a node's formula meets in a row: one operand stands on both sides; inputs and
-- shifts have no formula
abbrev pub operands_at : List Column → Tree → ℕ → Option Value × Option Value
operands_at inputs (Input index) row = (None, None)
operands_at inputs (Cast operand target options) row =
    (slot_at inputs operand row, slot_at inputs operand row)
operands_at inputs (Binary op left right) row = (
  slot_at inputs left (operand_row (row_count inputs left) row),
  slot_at inputs right (operand_row (row_count inputs right) row),
)
operands_at inputs (ScalarRight operand op k) row =
    (slot_at inputs operand row, slot_at inputs operand row)
operands_at inputs (ScalarLeft k op operand) row =
    (slot_at inputs operand row, slot_at inputs operand row)
operands_at inputs (InUnit operand unit) row =
    (slot_at inputs operand row, slot_at inputs operand row)
operands_at inputs (Shift operand periods) row = (None, None)

-- a formula on two slots, with every fit and every wrap left out
abbrev pub exact_slot : Option Formula → Option Value × Option Value → Option Value
exact_slot None operands = None
exact_slot (Some formula) operands = on_slots (exact_value_of formula) operands.0 operands.1

-- a node that is covered by an interval: each valid slot lies in it, and where the operands' slots
-- are valid, so is the node's, and nothing of it was wrapped
pub record IsKeptIn (inputs : List Column) (tree : Tree) (range : Interval) : Type 0 where
  pub within : (row : ℕ) (value : Value) → slot_at inputs tree row ≡ Some value →
      is_value_in (Some range) value ≡ true
  pub exact : (row : ℕ) (x y : Value) → operands_at inputs tree row ≡ (Some x, Some y) →
      (value : ℤ) × (slot_at inputs tree row ≡ Some (whole value))
      × (exact_slot (formula_for inputs tree) (Some x, Some y) ≡ Some (whole value))

-- the same of a node whose number the plan covers
abbrev pub IsKeptBy : List Column → Plan → Numbers × Tree → Type 0
IsKeptBy inputs plan node =
    (range : Interval) → interval_in plan (number_at node.0) ≡ Some range →
    IsKeptIn inputs node.1 range

-- a valid plan of a tree that an expression can hold keeps its promise at each node
abbrev pub ValidPlansAreKept : Type 0
ValidPlansAreKept =
    (inputs : List Column) (plan : Plan) (tree : Tree) → All IsValidColumn inputs →
    is_built_tree tree ≡ true → is_plan_valid inputs plan tree ≡ true →
    All (IsKeptBy inputs plan) (numbered_nodes (numbers_from 0 tree) tree)

-- the plan that is found is valid
abbrev pub FoundPlansAreValid : Type 0
FoundPlansAreValid =
    (inputs : List Column) (tree : Tree) → All IsValidColumn inputs →
    is_plan_valid inputs (found_plan inputs tree) tree ≡ true

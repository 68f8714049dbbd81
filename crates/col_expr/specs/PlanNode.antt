-- What is found of a part of an expression while its plan is checked.
use Rattle.std.specs.Prelude.{◌≡◌, ℕ, List, Bool, true, false, ◌&&◌, Option, Some, None, IfSome}
use Rattle.std.specs.Option.{option_map}
use Rattle.col_types.specs.declared.data_type.DataType.{DataType}
use Rattle.col_types.specs.declared.operator.BinOp.{BinOp}
use Rattle.col_model.specs.Arithmetic.{Interval}
use Rattle.col_model.specs.Column.{Column, is_built_type}
use Rattle.col_model.specs.IntervalRoom.{IsNear, IsOrdered}
use Rattle.col_expr.specs.declared.node.UnaryOp.{UnaryOp}
use Rattle.col_expr.specs.declared.node.UnaryOp.TheVariants as operations
use Rattle.col_expr.specs.declared.part.Part.{Part}
use Rattle.col_expr.specs.declared.part.Part.TheVariants as parts
use Rattle.col_expr.specs.Tree.{Tree}
use Rattle.col_expr.specs.Numbers.{Numbers}
use Rattle.col_expr.specs.Meaning.{dtype_of, cast_dtype, rule_dtype, cast_rule_for}
use Rattle.col_expr.specs.Meaning.{operator_rule_for, scalar_right_rule_for, scalar_left_rule_for}
use Rattle.col_expr.specs.Meaning.{unit_change_rule_for}
use Rattle.col_expr.specs.FoundPlan.{found_interval, fitting}
use Rattle.col_expr.specs.Plan.{Plan, cast_formula, rule_formula, scalar_formula, bound_by}
use Rattle.col_expr.specs.Plan.{bound_of, image_by, fits_type, is_image_inside, is_column_within}
use Rattle.col_expr.specs.Plan.{rules_hold}

-- ---- a node from its operands' types and bounds

-- the type of an operation's answer
abbrev pub operation_dtype : UnaryOp → Option DataType → Option DataType
operation_dtype (operations.Cast target options) dtype = cast_dtype dtype target
operation_dtype (operations.ScalarRight op k) dtype = rule_dtype (scalar_right_rule_for dtype op k)
operation_dtype (operations.ScalarLeft k op) dtype = rule_dtype (scalar_left_rule_for k op dtype)
operation_dtype (operations.InUnit unit) dtype = rule_dtype (unit_change_rule_for dtype unit)
operation_dtype (operations.Shift periods) dtype = dtype

-- where the slots of an operation's answer lie
abbrev pub operation_image : UnaryOp → Option DataType → Option Interval → Option Interval
operation_image (operations.Cast target options) dtype bound =
    image_by (cast_formula (cast_rule_for dtype target options)) bound bound
operation_image (operations.ScalarRight op k) dtype bound =
    image_by (scalar_formula dtype k (scalar_right_rule_for dtype op k)) bound bound
operation_image (operations.ScalarLeft k op) dtype bound =
    image_by (scalar_formula dtype k (scalar_left_rule_for k op dtype)) bound bound
operation_image (operations.InUnit unit) dtype bound =
    image_by (rule_formula (unit_change_rule_for dtype unit)) bound bound
operation_image (operations.Shift periods) dtype bound = bound

-- the type of an operator's answer
abbrev pub pair_dtype : BinOp → Option DataType → Option DataType → Option DataType
pair_dtype op left right = rule_dtype (operator_rule_for op left right)

-- where the slots of an operator's answer lie
abbrev pub pair_image : BinOp → Option DataType → Option DataType → Option Interval →
    Option Interval → Option Interval
pair_image op left right p q = image_by (rule_formula (operator_rule_for op left right)) p q

-- ---- the rule of a node by its type and its image

-- whether the rule of a node of this type and image holds for what the plan has for it
abbrev pub keeps_image : Option Interval → Option DataType → Option Interval → Bool
keeps_image None dtype image = true
keeps_image (Some range) dtype image = fits_type dtype range && is_image_inside range image

-- whether the rule of an input holds for what the plan has for it
abbrev pub keeps_column : Option Interval → Option DataType → Option Column → Bool
keeps_column None dtype column = true
keeps_column (Some range) dtype column = fits_type dtype range && is_column_within range column

-- ---- plans

-- the low end of a covered node's interval isn't above its high one
abbrev pub IsCoverOrdered : ℕ × Interval → Type 0
IsCoverOrdered covered = IsOrdered covered.1

-- ---- parts

-- the type of a part
abbrev pub part_dtype : Part → Option DataType
part_dtype parts.Untyped = None
part_dtype (parts.Typed dtype bound) = Some dtype

-- where the slots of a part lie
abbrev pub part_bound : Part → Option Interval
part_bound parts.Untyped = None
part_bound (parts.Typed dtype bound) = Some bound

-- an interval with room to compute in 128 bits
pub record HasRoom (range : Interval) : Type 0 where
  pub near : IsNear 63 range
  pub ordered : IsOrdered range

-- columns of the type exist, and the bound has room
abbrev pub IsKnown : Part → Type 0
IsKnown parts.Untyped = Unit {0}
IsKnown (parts.Typed dtype bound) = (is_built_type dtype ≡ true) × HasRoom bound

-- the type of a node that has one
abbrev pub image_dtype : Option (DataType × Option Interval) → Option DataType
image_dtype image = option_map (λ (typed : DataType × Option Interval). typed.0) image

-- where the slots of a node lie that has a type
abbrev pub image_interval : Option (DataType × Option Interval) → Option Interval
image_interval None = None
image_interval (Some typed) = typed.1

-- columns of the type of a node exist, if it has one
abbrev pub IsImageBuilt : Option (DataType × Option Interval) → Type 0
IsImageBuilt image =
    IfSome image (λ (typed : DataType × Option Interval). is_built_type typed.0 ≡ true)

-- what the rule of a node answers, by its image and the interval of the plan
pub record IsSettled (planned : Option Interval) (image : Option (DataType × Option Interval))
    (part : Part) : Type 0 where
  pub typed : part_dtype part ≡ image_dtype image
  pub bounded : part_bound part ≡ bound_by planned (image_dtype image)
  pub held : keeps_image planned (image_dtype image) (image_interval image) ≡ true
  pub known : IsKnown part

-- the same, or that the rule fails
abbrev pub IsSettledBy :
    Option Interval → Option (DataType × Option Interval) → Option Part → Type 0
IsSettledBy planned image None =
    keeps_image planned (image_dtype image) (image_interval image) ≡ false
IsSettledBy planned image (Some part) = IsSettled planned image part

-- a part has the type and the bound of the tree, and each rule in it holds
pub record IsPart (inputs : List Column) (plan : Plan) (numbers : Numbers) (tree : Tree)
    (part : Part) : Type 0 where
  pub typed : part_dtype part ≡ dtype_of inputs tree
  pub bounded : part_bound part ≡ bound_of inputs plan numbers tree
  pub held : rules_hold inputs plan numbers tree ≡ true
  pub known : IsKnown part

-- what the check of a tree answers: none where a rule in it fails
abbrev pub IsChecked : List Column → Plan → Numbers → Tree → Option Part → Type 0
IsChecked inputs plan numbers tree None = rules_hold inputs plan numbers tree ≡ false
IsChecked inputs plan numbers tree (Some part) = IsPart inputs plan numbers tree part

-- ---- inputs

-- the type of a column, if there is one
abbrev pub column_dtype : Option Column → Option DataType
column_dtype column = option_map (λ (c : Column). c.dtype) column

-- what is known of an input that keeps its rule
pub record IsInputPart (planned : Option Interval) (column : Option Column) (part : Part) :
    Type 0 where
  pub typed : part_dtype part ≡ column_dtype column
  pub bounded : part_bound part ≡ bound_by planned (column_dtype column)
  pub held : keeps_column planned (column_dtype column) column ≡ true
  pub known : IsKnown part

-- the same, or that its rule fails
abbrev pub IsInput : Option Interval → Option Column → Option Part → Type 0
IsInput planned column None = keeps_column planned (column_dtype column) column ≡ false
IsInput planned column (Some part) = IsInputPart planned column part

-- ---- plans that are found

-- a part has the type of the tree, and the bound that is found for it
pub record IsFoundPart (inputs : List Column) (tree : Tree) (part : Part) : Type 0 where
  pub typed : part_dtype part ≡ dtype_of inputs tree
  pub bounded : part_bound part ≡ bound_by (found_interval inputs tree) (dtype_of inputs tree)
  pub known : IsKnown part

-- a part has the type of the image, and the image as its bound where that fits
pub record IsCovered (image : Option (DataType × Option Interval)) (part : Part) : Type 0 where
  pub typed : part_dtype part ≡ image_dtype image
  pub bounded : part_bound part ≡
      bound_by (fitting (image_dtype image) (image_interval image)) (image_dtype image)
  pub known : IsKnown part

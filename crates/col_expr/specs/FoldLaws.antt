-- That folding changes no answer, and steps by hand.
use Rattle.std.specs.Prelude.{is_some, ◌≡◌, true, ℕ, ℤ, pos, ◌^◌, ◌-◌, List, [], ◌∷◌, map, codes}
use Rattle.std.specs.Prelude.{Some, None}
use Rattle.std.specs.List.{All}
use Rattle.col_types.specs.declared.data_type.DataType.{DataType, Datetime}
use Rattle.col_types.specs.declared.cast_options.CastOptions.TheVariants.{Strict, NonStrict}
use Rattle.col_types.specs.declared.time_unit.TimeUnit.{TimeUnit}
use Rattle.col_types.specs.declared.time_unit.TimeUnit.TheVariants.{Nanoseconds, Microseconds}
use Rattle.col_types.specs.declared.time_unit.TimeUnit.TheVariants.{Milliseconds}
use Rattle.col_types.specs.declared.is_sorted.IsSorted.TheVariants.{Not}
use Rattle.col_model.specs.Arithmetic.{Interval}
use Rattle.col_model.specs.Value.{whole}
use Rattle.col_model.specs.Column.{Column, IsValidColumn}
use Rattle.col_expr.specs.Tree.{Tree, Input, Cast, Shift}
use Rattle.col_expr.specs.Built.{is_built_tree}
use Rattle.col_expr.specs.Meaning.{dtype_of, slot_at, result_column, step_count}
use Rattle.col_expr.specs.Plan.{Plan}
use Rattle.col_expr.specs.Refusal.{outcome_by, outcome}
use Rattle.col_expr.specs.Folded.{step_of, goes_on, turns_back, is_type, folded}

-- the folded tree has the column of the whole tree, or its first refused node, under every plan, if
-- an expression can hold the tree
abbrev pub FoldingChangesNoAnswer : Type 0
FoldingChangesNoAnswer =
    (inputs : List Column) (plan : Plan) (tree : Tree) → All IsValidColumn inputs →
    is_built_tree tree ≡ true →
    outcome_by inputs (folded inputs plan tree).numbers (folded inputs plan tree).tree
    ≡ outcome inputs tree

-- ---- the two rules

-- a cast from unit to unit, null where a value has no room there
abbrev pub cast_to : Tree → DataType → Tree
cast_to operand target = Cast operand target NonStrict

-- two casts that go on have the column of the one, its sorted flag too
abbrev pub JoinedCastsAreOne : Type 0
JoinedCastsAreOne =
    (inputs : List Column) (tree : Tree) (between target : DataType) →
    goes_on (step_of inputs (cast_to tree between))
    (step_of inputs (cast_to (cast_to tree between) target)) ≡ true →
    result_column inputs (cast_to (cast_to tree between) target)
    ≡ result_column inputs (cast_to tree target)

-- a cast to a finer unit that loses no slot, and one back, give the column, its sorted flag too
abbrev pub TurnedCastsGiveBack : Type 0
TurnedCastsGiveBack =
    (inputs : List Column) (tree : Tree) (between target : DataType) →
    turns_back (step_of inputs (cast_to tree between))
    (step_of inputs (cast_to (cast_to tree between) target)) ≡ true →
    is_type (dtype_of inputs tree) target ≡ true →
    ((row : ℕ) → is_some (slot_at inputs tree row) ≡ true →
    is_some (slot_at inputs (cast_to tree between) row) ≡ true) →
    result_column inputs (cast_to (cast_to tree between) target) ≡ result_column inputs tree

-- ---- by hand

-- a column of moments in milliseconds
abbrev pub in_milliseconds : List ℤ → List Column
in_milliseconds ticks = record {
  name = codes "a";
  dtype = Datetime Milliseconds None;
  slots = map (λ tick. Some (whole tick)) ticks;
  flag = Not;
} ∷ []

-- moments in another unit
abbrev pub to : TimeUnit → Tree → Tree
to unit operand = cast_to operand (Datetime unit None)

-- the steps of the folded tree
abbrev pub folded_steps : List Column → Plan → Tree → ℕ
folded_steps inputs plan tree = step_count inputs (folded inputs plan tree).tree

-- the node of this number lies between two integers
abbrev pub between : ℕ → ℤ → ℤ → ℕ × Interval
between node low high = (node, record { low = low; high = high })

-- two casts to finer units
abbrev pub twice_finer : Tree
twice_finer = to Nanoseconds (to Microseconds (Input 0))

-- a cast to a finer unit and back
abbrev pub there_and_back : Tree
there_and_back = to Milliseconds (to Nanoseconds (Input 0))

-- steps of casts that go on: two rows of each node that is left
pub record KnownChains : Type 0 where
  pub whole : step_count (in_milliseconds (pos 5 ∷ pos 6 ∷ [])) twice_finer ≡ 4
  pub joined : folded_steps (in_milliseconds (pos 5 ∷ pos 6 ∷ [])) [] twice_finer ≡ 2
  pub strict : folded_steps (in_milliseconds (pos 5 ∷ pos 6 ∷ [])) []
      (Cast (to Microseconds (Input 0)) (Datetime Nanoseconds None) Strict) ≡ 4
  pub shifted : folded_steps (in_milliseconds (pos 5 ∷ pos 6 ∷ [])) []
      (to Nanoseconds (Shift (to Microseconds (Input 0)) (pos 1))) ≡ 6
  pub level : folded_steps (in_milliseconds (pos 5 ∷ pos 6 ∷ [])) []
      (to Nanoseconds (to Microseconds (to Microseconds (Input 0)))) ≡ 6
  pub coarser : folded_steps (in_milliseconds (pos 5 ∷ pos 6 ∷ [])) []
      (to Milliseconds (to Microseconds twice_finer)) ≡ 4

-- steps of a cast to a finer unit and back: none where a valid plan covers it
pub record KnownReturns : Type 0 where
  pub covered : folded_steps (in_milliseconds (pos 5 ∷ []))
      (between 0 (pos 5) (pos 5) ∷ between 1 (pos 0) (pos 5000000) ∷ []) there_and_back ≡ 0
  pub uncovered : folded_steps (in_milliseconds (pos 5 ∷ []))
      (between 0 (pos 5) (pos 5) ∷ []) there_and_back ≡ 2
  pub false_plan : folded_steps (in_milliseconds (pos (2 ^ 63 - 1) ∷ []))
      (between 1 (pos 0) (pos 9) ∷ []) there_and_back ≡ 2
  pub no_such_node : folded_steps (in_milliseconds (pos 5 ∷ []))
      (between 0 (pos 5) (pos 5) ∷ between 1 (pos 0) (pos 5000000)
      ∷ between 3 (pos 0) (pos 9) ∷ []) there_and_back ≡ 2
  pub two_there_two_back : folded_steps (in_milliseconds (pos 5 ∷ []))
      (between 0 (pos 5) (pos 5) ∷ between 1 (pos 0) (pos 5000)
      ∷ between 2 (pos 0) (pos 5000000) ∷ between 3 (pos 0) (pos 5000) ∷ [])
      (to Milliseconds (to Microseconds twice_finer)) ≡ 0

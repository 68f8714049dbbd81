-- What the column of a tree is made from, as one value: trees with the same facts have the same
-- column, and so have the nodes above them.
use Rattle.std.proofs.Common.{◌≡◌, ℕ, ℤ, List, [], Option, ap}
use Rattle.std.specs.Prelude.{unwrap_or}
use Rattle.std.specs.Option.{option_and_then}
use Rattle.col_types.specs.declared.data_type.DataType.{DataType, Boolean}
use Rattle.col_types.specs.declared.cast_options.CastOptions.{CastOptions}
use Rattle.col_types.specs.declared.time_unit.TimeUnit.{TimeUnit}
use Rattle.col_types.specs.declared.operator.BinOp.{BinOp}
use Rattle.col_types.specs.declared.operator.ScalarOp.{ScalarOp}
use Rattle.col_types.specs.declared.is_sorted.IsSorted.{IsSorted}
use Rattle.col_types.specs.declared.is_sorted.IsSorted.TheVariants.{Not}
use Rattle.col_model.specs.Value.{Value}
use Rattle.col_model.specs.Column.{Column}
use Rattle.col_model.specs.Broadcast.{column_slots, operand_row, row_before}
use Rattle.col_model.specs.ColumnCalls.{cast_slot}
use Rattle.col_expr.specs.Tree.{Tree, Cast, Binary, ScalarRight, ScalarLeft, InUnit, Shift}
use Rattle.col_expr.specs.Meaning.{name_of, dtype_of, rows_of, slot_at, flag_of, cast_dtype}
use Rattle.col_expr.specs.Meaning.{cast_rule_for, cast_flag_for, rule_dtype, rule_slot, rule_slots}
use Rattle.col_expr.specs.Meaning.{scalar_slot, operator_rule_for, scalar_right_rule_for}
use Rattle.col_expr.specs.Meaning.{scalar_left_rule_for, unit_change_rule_for, broadcast_length_for}
use Rattle.col_expr.specs.Meaning.{result_column}
use Rattle.col_expr.specs.Refusal.{cast_refusal_at, binary_refusal_at, scalar_refusal_at}
use Rattle.col_expr.specs.Refusal.{unsupported_at, refusal_at}

pub record Facts : Type 0 where
  pub name : Option (List ℕ)
  pub dtype : Option DataType
  pub rows : Option ℕ
  pub slot : ℕ → Option Value
  pub flag : IsSorted

abbrev pub facts : List Column → Tree → Facts
facts inputs tree = record {
  name = name_of inputs tree;
  dtype = dtype_of inputs tree;
  rows = rows_of inputs tree;
  slot = slot_at inputs tree;
  flag = flag_of inputs tree;
}

abbrev pub row_count_by : Facts → ℕ
row_count_by f = unwrap_or f.rows 0

abbrev pub slots_by_facts : Facts → List (Option Value)
slots_by_facts f = column_slots f.slot (row_count_by f)

-- ---- a node from its operands

abbrev pub cast_facts : DataType → CastOptions → Facts → Facts
cast_facts target options f = record {
  name = f.name;
  dtype = cast_dtype f.dtype target;
  rows = f.rows;
  slot = λ row. cast_slot (cast_rule_for f.dtype target options) (f.slot row);
  flag = cast_flag_for f.dtype target (slots_by_facts f) f.flag;
}

abbrev binary_facts : BinOp → Facts → Facts → Facts
binary_facts op f g = record {
  name = f.name;
  dtype = rule_dtype (operator_rule_for op f.dtype g.dtype);
  rows = broadcast_length_for f.rows g.rows;
  slot = λ row. rule_slots (operator_rule_for op f.dtype g.dtype)
      (f.slot (operand_row (row_count_by f) row)) (g.slot (operand_row (row_count_by g) row));
  flag = Not;
}

abbrev right_facts : ScalarOp → ℤ → Facts → Facts
right_facts op k f = record {
  name = f.name;
  dtype = rule_dtype (scalar_right_rule_for f.dtype op k);
  rows = f.rows;
  slot = λ row. scalar_slot f.dtype k (scalar_right_rule_for f.dtype op k) (f.slot row);
  flag = Not;
}

abbrev left_facts : ℤ → BinOp → Facts → Facts
left_facts k op f = record {
  name = f.name;
  dtype = rule_dtype (scalar_left_rule_for k op f.dtype);
  rows = f.rows;
  slot = λ row. scalar_slot f.dtype k (scalar_left_rule_for k op f.dtype) (f.slot row);
  flag = Not;
}

abbrev unit_facts : TimeUnit → Facts → Facts
unit_facts unit f = record {
  name = f.name;
  dtype = rule_dtype (unit_change_rule_for f.dtype unit);
  rows = f.rows;
  slot = λ row. rule_slot (unit_change_rule_for f.dtype unit) (f.slot row);
  flag = Not;
}

abbrev shift_facts : ℤ → Facts → Facts
shift_facts periods f = record {
  name = f.name;
  dtype = f.dtype;
  rows = f.rows;
  slot = λ row. option_and_then f.slot (row_before (row_count_by f) periods row);
  flag = Not;
}

-- ---- operands with the same facts

pub same_cast : (inputs : List Column) (a b : Tree) (target : DataType) (options : CastOptions) →
    facts inputs a ≡ facts inputs b →
    facts inputs (Cast a target options) ≡ facts inputs (Cast b target options)
same_cast inputs a b target options same = ap (cast_facts target options) same

pub same_binary : (inputs : List Column) (op : BinOp) (a b c d : Tree) →
    facts inputs a ≡ facts inputs c → facts inputs b ≡ facts inputs d →
    facts inputs (Binary op a b) ≡ facts inputs (Binary op c d)
same_binary inputs op a b c d left right = λ i. binary_facts op (left i) (right i)

pub same_right : (inputs : List Column) (a b : Tree) (op : ScalarOp) (k : ℤ) →
    facts inputs a ≡ facts inputs b →
    facts inputs (ScalarRight a op k) ≡ facts inputs (ScalarRight b op k)
same_right inputs a b op k same = ap (right_facts op k) same

pub same_left : (inputs : List Column) (k : ℤ) (op : BinOp) (a b : Tree) →
    facts inputs a ≡ facts inputs b →
    facts inputs (ScalarLeft k op a) ≡ facts inputs (ScalarLeft k op b)
same_left inputs k op a b same = ap (left_facts k op) same

pub same_unit_change : (inputs : List Column) (a b : Tree) (unit : TimeUnit) →
    facts inputs a ≡ facts inputs b → facts inputs (InUnit a unit) ≡ facts inputs (InUnit b unit)
same_unit_change inputs a b unit same = ap (unit_facts unit) same

pub same_shift : (inputs : List Column) (a b : Tree) (periods : ℤ) →
    facts inputs a ≡ facts inputs b →
    facts inputs (Shift a periods) ≡ facts inputs (Shift b periods)
same_shift inputs a b periods same = ap (shift_facts periods) same

-- ---- refusals of nodes over operands with the same facts

pub refused_cast : (inputs : List Column) (node : ℕ) (a b : Tree) (target : DataType)
    (options : CastOptions) → facts inputs a ≡ facts inputs b →
    refusal_at inputs node (Cast a target options) ≡ refusal_at inputs node (Cast b target options)
refused_cast inputs node a b target options same =
    ap (λ (f : Facts). cast_refusal_at node f.dtype target options (slots_by_facts f)) same

pub refused_binary : (inputs : List Column) (node : ℕ) (op : BinOp) (a b c d : Tree) →
    facts inputs a ≡ facts inputs c → facts inputs b ≡ facts inputs d →
    refusal_at inputs node (Binary op a b) ≡ refusal_at inputs node (Binary op c d)
refused_binary inputs node op a b c d left right = λ i.
    binary_refusal_at node (row_count_by (left i)) (row_count_by (right i))
    (broadcast_length_for (left i).rows (right i).rows)
    (operator_rule_for op (left i).dtype (right i).dtype)

pub refused_right : (inputs : List Column) (node : ℕ) (a b : Tree) (op : ScalarOp) (k : ℤ) →
    facts inputs a ≡ facts inputs b →
    refusal_at inputs node (ScalarRight a op k) ≡ refusal_at inputs node (ScalarRight b op k)
refused_right inputs node a b op k same =
    ap (λ (f : Facts). scalar_refusal_at node f.dtype k (scalar_right_rule_for f.dtype op k)) same

pub refused_left : (inputs : List Column) (node : ℕ) (k : ℤ) (op : BinOp) (a b : Tree) →
    facts inputs a ≡ facts inputs b →
    refusal_at inputs node (ScalarLeft k op a) ≡ refusal_at inputs node (ScalarLeft k op b)
refused_left inputs node k op a b same =
    ap (λ (f : Facts). scalar_refusal_at node f.dtype k (scalar_left_rule_for k op f.dtype)) same

pub refused_unit_change : (inputs : List Column) (node : ℕ) (a b : Tree) (unit : TimeUnit) →
    facts inputs a ≡ facts inputs b →
    refusal_at inputs node (InUnit a unit) ≡ refusal_at inputs node (InUnit b unit)
refused_unit_change inputs node a b unit same =
    ap (λ (f : Facts). unsupported_at node (unit_change_rule_for f.dtype unit)) same

-- ---- the column

abbrev column_by : Facts → Column
column_by f = record {
  name = unwrap_or f.name [];
  dtype = unwrap_or f.dtype Boolean;
  slots = slots_by_facts f;
  flag = f.flag;
}

pub same_column : (inputs : List Column) (a b : Tree) → facts inputs a ≡ facts inputs b →
    result_column inputs a ≡ result_column inputs b
same_column inputs a b same = ap column_by same

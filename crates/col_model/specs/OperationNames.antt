-- How refusals name operations.
use Rattle.col_types.specs.DataType.{kind_of}
use Rattle.col_types.specs.declared.data_type.DataType.{DataType}
use Rattle.col_types.specs.declared.operator.BinOp.{BinOp}
use Rattle.col_types.specs.declared.operator.BinOp.TheVariants as ops
use Rattle.col_types.specs.declared.operator.ScalarOp.{ScalarOp}
use Rattle.col_types.specs.declared.operator.ScalarOp.TheVariants as scalar_ops
use Rattle.col_types.specs.declared.operator.OpName.{OpName}
use Rattle.col_types.specs.declared.operator.OpName.TheVariants as names
use Rattle.col_types.specs.declared.error.PolarsError.{PolarsError}
use Rattle.col_types.specs.declared.error.PolarsError.TheVariants as errors

-- the name of an operator between two columns, or between an integer and a column
abbrev pub name_of_op : BinOp → OpName
name_of_op ops.Add = names.Add
name_of_op ops.Sub = names.Sub
name_of_op ops.Mul = names.Mul
name_of_op ops.Div = names.Div
name_of_op ops.Rem = names.Rem

-- the name of an operator between a column and an integer
abbrev pub name_of_scalar_op : ScalarOp → OpName
name_of_scalar_op scalar_ops.Add = names.Add
name_of_scalar_op scalar_ops.Sub = names.Sub
name_of_scalar_op scalar_ops.Mul = names.Mul
name_of_scalar_op scalar_ops.Div = names.Div
name_of_scalar_op scalar_ops.Rem = names.Rem
name_of_scalar_op scalar_ops.TruncDiv = names.TruncDiv

-- an operation isn't defined for two types
abbrev pub unsupported : OpName → DataType → DataType → PolarsError
unsupported op left right = errors.Types op (kind_of left) (kind_of right)

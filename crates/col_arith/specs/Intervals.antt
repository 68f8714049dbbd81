-- Where what operators and forms give lies.
use Rattle.std.specs.Prelude.{◌+ℤ◌, ◌-ℤ◌, ℤ, Option, Some, None, if◌then◌else◌}
use Rattle.col_types.specs.declared.data_type.DataType.{DataType}
use Rattle.col_model.specs.OperatorTable.{OperatorRule}
use Rattle.col_model.specs.ScalarTable.{scalar_right_rule, scalar_left_rule}
use Rattle.col_arith.specs.Checked.{checked_num_rule}
use Rattle.col_arith.specs.declared.scalars.ScalarForm.{ScalarForm}
use Rattle.col_arith.specs.declared.scalars.ScalarForm.TheVariants.{Right, Left, Checked}
use Rattle.col_model.specs.Arithmetic.{Interval, is_inside}
use Rattle.col_arith.specs.PairRule.{tick_values}
use Rattle.col_arith.specs.declared.pair_rule.AddOrSub.{AddOrSub}
use Rattle.col_arith.specs.declared.pair_rule.AddOrSub.TheVariants.{Add, Sub}

-- the interval of a sum or a difference
abbrev pub both_ends : AddOrSub → Interval → Interval → Option Interval
both_ends Add p q = Some (record { low = p.low +ℤ q.low; high = p.high +ℤ q.high })
both_ends Sub p q = Some (record { low = p.low -ℤ q.high; high = p.high -ℤ q.low })

-- an interval that some integers give, none where they may not be words of 64 bits
abbrev pub if_inside : Interval → Option Interval → Option Interval
if_inside integers given = if is_inside tick_values integers then given else None

-- the rule of a form
abbrev pub form_rule : ScalarForm → ℤ → DataType → Option OperatorRule
form_rule (Right op) k dtype = scalar_right_rule dtype op k
form_rule (Left op) k dtype = scalar_left_rule k op dtype
form_rule Checked k dtype = checked_num_rule dtype k

-- Where the slots lie that a rule of the tables gives.
use Rattle.std.specs.Prelude.{Bool, true, false, Option, Some, None}
use Rattle.col_types.specs.declared.data_type.DataType.{DataType}
use Rattle.col_model.specs.Arithmetic.{Interval}
use Rattle.col_model.specs.Formula.{interval_of}
use Rattle.col_model.specs.CastTable.{CastRule}
use Rattle.col_model.specs.OperatorTable.{OperatorRule}

-- the interval of a rule of the cast table, none where there is no rule or it has none
abbrev pub cast_interval : Option CastRule → Interval → Option Interval
cast_interval None p = None
cast_interval (Some rule) p = interval_of rule.formula p p

-- the answer's type of another rule, and its interval
abbrev pub typed_interval : Option OperatorRule → Interval → Interval →
    Option (DataType × Option Interval)
typed_interval None p q = None
typed_interval (Some rule) p q = Some (rule.dtype, interval_of rule.formula p q)

-- the interval of a rule for an integer that the operand's word has, or hasn't
abbrev pub scalar_interval : Bool → Option OperatorRule → Interval → Option Interval
scalar_interval false rule p = None
scalar_interval true None p = None
scalar_interval true (Some rule) p = interval_of rule.formula p p

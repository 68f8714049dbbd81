-- Words in another unit, read as ticks of that unit, are the column in that unit.
use Rattle.std.specs.Prelude.{◌≡◌, ℕ, List, Option, Ok}
use Rattle.std.proofs.Common.{refl}
use Rattle.col_types.specs.declared.time_unit.TimeUnit.{TimeUnit}
use Rattle.col_types.specs.declared.data_type.DataType.{Datetime, Duration}
use Rattle.col_model.specs.Chunked.{Chunked}
use Rattle.col_model.specs.OperatorCalls.{in_unit_of}
use Rattle.col_model.specs.UnitChange.{wrapped_datetime_by, wrapped_duration_by}
use Rattle.col_logical.proofs.AnswerLaws.{answer, answer-same}
use Rattle.col_logical.specs.Logical.{in_unit, retyped}

pub moments_in_unit : (phys changed : Chunked) (old unit : TimeUnit) (name : Option (List ℕ)) → answer (in_unit wrapped_datetime_by old unit phys) ≡ answer changed
    → in_unit_of ((retyped (Datetime old name) phys).column) unit ≡ Ok ((retyped (Datetime unit name) changed).column)
moments_in_unit phys changed old unit name e = rw (← answer-same (in_unit wrapped_datetime_by old unit phys) changed e) refl

pub lengths_in_unit : (phys changed : Chunked) (old unit : TimeUnit) → answer (in_unit wrapped_duration_by old unit phys) ≡ answer changed
    → in_unit_of ((retyped (Duration old) phys).column) unit ≡ Ok ((retyped (Duration unit) changed).column)
lengths_in_unit phys changed old unit e = rw (← answer-same (in_unit wrapped_duration_by old unit phys) changed e) refl

use Rattle.col_model.proofs.RuleLemmas.{casts_give_values, operators_give_values, right_scalars_give_values, left_scalars_give_values, unit_changes_give_values}
use Rattle.col_model.proofs.laws.rules_give_values.Goals as goal

pub returns : goal.returns
returns c = record {
  casts = casts_give_values;
  operators = operators_give_values;
  right_scalars = right_scalars_give_values;
  left_scalars = left_scalars_give_values;
  unit_changes = unit_changes_give_values;
}

use Rattle.col_series.proofs.LawLemmas.{kept_column}
use Rattle.col_series.proofs.laws.own_type_keeps_column.Goals as goal

pub returns : goal.returns
returns c = record { law = kept_column }

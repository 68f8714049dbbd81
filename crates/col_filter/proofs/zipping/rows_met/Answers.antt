use Rattle.std.proofs.Common.{◌∙◌, ℕ, ap}
use Rattle.std.specs.Prelude.{Option}
use Rattle.col_filter.specs.Zips.{rows_or, rows_with}
use Rattle.col_filter.proofs.zipping.rows_met.Goals as goal

pub returns-in-None-clause-rows : goal.returns-in-None-clause-rows
returns-in-None-clause-rows c =
    ap (λ (o : Option ℕ). rows_with c.args.second (rows_or c.args.first c.args.mask o)) c.in-None.ensures.rows

pub returns-in-None-common_rows-clause-rows : goal.returns-in-None-common_rows-clause-rows
returns-in-None-common_rows-clause-rows c =
    ap (rows_or c.in-Some.rows c.args.second) c.in-None-common_rows.ensures.rows
    ∙ ap (λ (o : Option ℕ). rows_with c.args.second (rows_or c.args.first c.args.mask o)) c.in-Some.ensures.rows

pub returns-in-Some-common_rows-clause-rows : goal.returns-in-Some-common_rows-clause-rows
returns-in-Some-common_rows-clause-rows c =
    ap (rows_or c.in-Some.rows c.args.second) c.in-Some-common_rows.ensures.rows
    ∙ ap (λ (o : Option ℕ). rows_with c.args.second (rows_or c.args.first c.args.mask o)) c.in-Some.ensures.rows

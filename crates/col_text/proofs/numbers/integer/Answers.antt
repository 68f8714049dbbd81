use Rattle.std.proofs.Common.{sym}
use Rattle.col_text.proofs.NumberLemmas.{integer_of-not_text}
use Rattle.col_text.proofs.numbers.integer.Goals as goal

pub returns-in-Err : goal.returns-in-Err
returns-in-Err c = record {
  value = sym (integer_of-not_text c.args.token.now c.in-Err.ensures.cases.0);
}

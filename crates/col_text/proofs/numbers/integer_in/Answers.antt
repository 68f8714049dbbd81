use Rattle.std.proofs.Common.{◌∙◌}
use Rattle.col_text.proofs.NumberLemmas.{integer_of-parsed}
use Rattle.col_text.proofs.numbers.integer_in.Goals as goal

pub returns : goal.returns
returns c = record {
  value = c.ok.ensures.value
      ∙ integer_of-parsed c.args.text.now c.parse.result c.parse.ensures.value.0;
}

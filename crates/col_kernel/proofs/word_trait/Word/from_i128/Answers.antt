use Rattle.col_kernel.proofs.WordLemmas.{fit_same, fit_none}
use Rattle.col_kernel.proofs.word_trait.Word.from_i128.Goals as goal

pub returns-then-to_i128-value : goal.returns-then-to_i128-value
returns-then-to_i128-value g c =
    record {
      value = fit_same g.Self.Word.word_type c.args.value c.to_i128.result _ c.ranges.value
          (record { sfits = c.to_i128.type_inv }) c.if-to_i128-value.true c.to_i128.ensures.value
          c.to_i128.ensures.in_range;
    }

pub returns-else-to_i128-value : goal.returns-else-to_i128-value
returns-else-to_i128-value g c =
    record {
      value = fit_none g.Self.Word.word_type c.args.value c.to_i128.result _ c.ranges.value
          c.to_i128.ensures.value c.wrap_i128-word.ensures.value c.if-to_i128-value.false;
    }

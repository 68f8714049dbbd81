use Rattle.std.proofs.Common.{◌∙◌}
use Rattle.col_kernel.proofs.WordLemmas.{wrapped_value-add}
use Rattle.col_kernel.proofs.word_trait.Word.add_wrap.Goals as goal

pub returns : goal.returns
returns g c = record {
  value = c.wrap_i128.ensures.value
      ∙ wrapped_value-add g.Self.Word.word_type _ _ _ _ (record { sfits = c.to_i128.type_inv })
      (record { sfits = c.to_i128-2.type_inv }) c.to_i128.ensures.value c.to_i128-2.ensures.value;
}

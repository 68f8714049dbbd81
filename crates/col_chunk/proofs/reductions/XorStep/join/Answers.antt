use Rattle.std.proofs.Common.{ap, ◌∙◌}
use Rattle.std.specs.Int.{w128, int_bit_xor}
use Rattle.col_model.specs.Arithmetic.{wrapped_value}
use Rattle.col_chunk.proofs.reductions.XorStep.join.Goals as goal

pub returns : goal.returns
returns g c =
    record {
      value = c.wrap_i128.ensures.value
          ∙ ap (λ x. wrapped_value g.T.Word.word_type (int_bit_xor w128 x c.to_i128-2.result)) c.to_i128.ensures.value
          ∙ ap (λ y. wrapped_value g.T.Word.word_type (int_bit_xor w128 (g.T.Word.reading c.args.total) y)) c.to_i128-2.ensures.value;
    }

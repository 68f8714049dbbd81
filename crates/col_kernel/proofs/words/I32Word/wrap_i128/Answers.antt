use Rattle.std.specs.Int.{w32}
use Rattle.col_kernel.proofs.WordLemmas.{narrow_signed}
use Rattle.col_kernel.proofs.words.I32Word.wrap_i128.Goals as goal

pub returns : goal.returns
returns c = record {
  value = narrow_signed w32 c.args.value _ _ c.ranges.value
      (record { sfits = c.cast_signed.type_inv }) c.cast_unsigned.ensures c.cast_signed.ensures;
}

use Rattle.std.proofs.Common.{◌∙◌, ◌++◌, ap, length}
use Rattle.col_types.proofs.NameLemmas.{zeros_left}
use Rattle.col_types.proofs.time_zone.padded_bytes.Goals as goal

pub returns : goal.returns
returns c = record {
  bytes = c.copy_front.ensures.bytes
      ∙ ap (λ l. c.args.name.now ++ l) (zeros_left (length c.args.name.now) 64);
}

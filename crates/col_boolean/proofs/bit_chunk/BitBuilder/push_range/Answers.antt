use Rattle.col_boolean.proofs.BitLaws.{ranged}
use Rattle.col_boolean.proofs.bit_chunk.BitBuilder.push_range.Goals as goal

pub returns : goal.returns
returns c =
    record { slots = ranged _ _ _ _ _ _ c.self.inside.len c.args.start c.args.len c.args.self.now c.self.view_is c.in_ok-add_range.ensures.ok c.in_ok-add_range-2.ensures.ok }

use Rattle.std.proofs.Common.{ap}
use Rattle.col_string.proofs.ByteLaws.{plain-part}
use Rattle.col_string.proofs.plain.PlainBytesChunk.share.Goals as goal

pub returns : goal.returns
returns c = record { slots = plain-part c.self.inside.values.value.items _ c.args.self.now c.self.inside.offset c.self.inside.len c.args.offset c.args.len (ap (λ v. v.items) c.in_ok-values.ensures.cases) c.self.view_is c.self.invariant c.requires.inside }

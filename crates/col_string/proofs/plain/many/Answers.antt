use Rattle.col_string.proofs.ByteLaws.{plain-repeat}
use Rattle.col_string.proofs.plain.many.Goals as goal

pub returns : goal.returns
returns c = record { bytes = plain-repeat c.args.bytes.now c.in_ok-answer.answer.items c.args.index c.args.len c.requires.inside c.in_ok-answer.ensures.items }

use Rattle.col_string.proofs.ByteLaws.{byte_valid}
use Rattle.col_string.proofs.plain.PlainBytesChunk.is_valid.Goals as goal

pub returns : goal.returns
returns c = record { valid = byte_valid c.args.self.now c.args.index c.requires.inside }

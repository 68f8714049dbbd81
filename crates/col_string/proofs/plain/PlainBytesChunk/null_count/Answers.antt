use Rattle.col_string.proofs.ByteLaws.{no_nulls}
use Rattle.col_string.proofs.plain.PlainBytesChunk.null_count.Goals as goal

pub returns : goal.returns
returns c = record { nulls = no_nulls c.args.self.now }

use Rattle.col_string.proofs.ColumnLaws.{texts_are_bytes}
use Rattle.col_string.proofs.conversions.StringChunkedStringConversion.as_binary.Goals as goal

pub read_as-requires-clause-fits : goal.read_as-requires-clause-fits
read_as-requires-clause-fits c = texts_are_bytes c.args.self.now.column.slots c.known.ensures.fit

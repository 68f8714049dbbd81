use Rattle.std.proofs.Common.{◌∙◌, ap}
use Rattle.std.specs.Prelude.{sum}
use Rattle.col_token.specs.Tokens.{words_in}
use Rattle.col_text.specs.Slots.{column_slot_in}
use Rattle.col_text.proofs.LengthLemmas.{lengths_all}
use Rattle.col_text.proofs.column.words_with.Goals as goal

pub short_column-requires-clause-all : goal.short_column-requires-clause-all
short_column-requires-clause-all g c =
    ap sum c.in-Ok.ensures.lengths ∙ lengths_all (column_slot_in g.V.Values.range) (words_in c.args.line.now) c.in-Ok.read.slots c.in-Ok.ensures.slots

use Rattle.std.specs.Int.{w128}
use Rattle.std.proofs.lemmas.Int.{to_z-of_z}
use Rattle.col_series.proofs.SlotLemmas.{word-read}
use Rattle.col_series.proofs.slots.word_of.Goals as goal

pub returns : goal.returns
returns g c = record { same = word-read g.W.Word.word_type c.args.value (g.W.Word.reading c.wrap_i128.result) c.requires.fits (rw (to_z-of_z w128 c.args.value c.ranges.value) at c.wrap_i128.ensures.value) }

use Rattle.col_chunk.proofs.TakeLaws.{row-of-word}
use Rattle.col_chunk.proofs.taking.NumbersIndices.row_at.Goals as goal

pub returns : goal.returns
returns c = record { row = row-of-word _ c.args.self.now.numbers.now c.args.at _ 0 c.requires.inside c.row_of.ensures.row }

use Rattle.std.proofs.Common.{arith, ◌∙◌, ◌+◌, ◌-◌, ◌<◌}
use Rattle.col_buffer.proofs.BitLaws.{low_again}
use Rattle.col_buffer.proofs.bits.overlaid.Goals as goal

pub returns-clause-low : goal.returns-clause-low
returns-clause-low c = λ j less.
    let inside : 64 - c.args.kept + j < 64 = omega (arith, c.requires.inside, c.requires.some) in
    c.joined_word.ensures.low j inside ∙ low_again c.args.word c.args.kept j c.requires.some c.requires.inside less

use Rattle.col_buffer.proofs.BitLaws.{joined_low, joined_high}
use Rattle.col_buffer.proofs.bits.joined_word.Goals as goal

pub returns-clause-low : goal.returns-clause-low
returns-clause-low c = λ j less. joined_low c.args.low c.args.high c.args.skip j c.requires.some less

pub returns-clause-high : goal.returns-clause-high
returns-clause-high c = λ j less past. joined_high c.args.low c.args.high c.args.skip j c.ranges.low.fits c.requires.some c.requires.inside less past

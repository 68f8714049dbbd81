use Rattle.std.proofs.Common.{ap}
use Rattle.col_string.proofs.RunLaws.{run_slots-read}
use Rattle.col_string.proofs.runs.RunChunk.read_as.Goals as goal

pub returns : goal.returns
returns g c = record { slots = run_slots-read g.R.Reading.reading g.Q.Reading.reading _ _ _ _ c.self.inside.ends.value.items c.in_ok-ends.ends.value.items c.self.inside.offset c.self.inside.len c.args.self.now c.requires.reading c.in_ok-validity.ensures.words c.in_ok-leaf.ensures.slots (ap (λ v. v.items) c.in_ok-ends.ensures.cases) c.self.view_is }

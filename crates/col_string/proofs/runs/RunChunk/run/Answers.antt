use Rattle.std.proofs.Common.{ap, refl, sym, ◌∙◌, true, false, List, Option, ◌+◌}
use Rattle.std.specs.Prelude.{None}
use Rattle.std.specs.List.{list_all}
use Rattle.col_model.specs.Value.{Value}
use Rattle.col_string.specs.Runs.{passes, run_at}
use Rattle.col_string.proofs.RunLaws.{list_all-get, run_is, run_slots-get}
use Rattle.col_string.proofs.runs.RunChunk.run.Goals as goal

pub returns-then-is_valid-clause-slot : goal.returns-then-is_valid-clause-slot
returns-then-is_valid-clause-slot g c =
    let leaf : List (Option Value) = g.L.Chunk.slots c.self.inside.leaf in
    let run = run_is leaf c.self.inside.ends.value.items (c.self.inside.offset + c.args.index) c.bounds-start.result.0 c.bounds-start.result.1 c.bounds-start.ensures.start c.bounds-start.ensures.len in
    run_slots-get g.R.Reading.reading _ leaf c.self.inside.ends.value.items c.self.inside.offset c.self.inside.len c.args.index c.args.self.now true _ c.self.view_is c.requires.inside c.if-is_valid.ensures.valid run

pub returns-else-is_valid-clause-slot : goal.returns-else-is_valid-clause-slot
returns-else-is_valid-clause-slot g c =
    let leaf : List (Option Value) = g.L.Chunk.slots c.self.inside.leaf in
    run_slots-get g.R.Reading.reading _ leaf c.self.inside.ends.value.items c.self.inside.offset c.self.inside.len c.args.index c.args.self.now false (run_at leaf c.self.inside.ends.value.items (c.self.inside.offset + c.args.index)) c.self.view_is c.requires.inside c.if-is_valid.ensures.valid refl

pub returns-then-is_valid-clause-fits : goal.returns-then-is_valid-clause-fits
returns-then-is_valid-clause-fits g c =
    let leaf : List (Option Value) = g.L.Chunk.slots c.self.inside.leaf in
    let run = run_is leaf c.self.inside.ends.value.items (c.self.inside.offset + c.args.index) c.bounds-start.result.0 c.bounds-start.result.1 c.bounds-start.ensures.start c.bounds-start.ensures.len in
    let slot = run_slots-get g.R.Reading.reading _ leaf c.self.inside.ends.value.items c.self.inside.offset c.self.inside.len c.args.index c.args.self.now true _ c.self.view_is c.requires.inside c.if-is_valid.ensures.valid run in
    let p = passes g.R.Reading.is_value in
    ap p slot ∙ list_all-get p c.args.self.now c.args.index None c.requires.inside (ap (list_all p) (sym c.self.view_is) ∙ c.self.invariant.3)

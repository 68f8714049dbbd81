use Rattle.std.proofs.Common.{arith, rules, true, ◌≡◌, ◌+◌, length, take, drop}
use Rattle.std.specs.Prelude.{List, Option}
use Rattle.std.specs.Option.{option_map}
use Rattle.std.proofs.lemmas.List.{length-take, length-drop}
use Rattle.col_model.specs.Value.{Value}
use Rattle.col_buffer.specs.Validity.{Reaches}
use Rattle.col_string.specs.Runs.{start_of}
use Rattle.col_string.proofs.RunLaws.{written-push}
use Rattle.col_string.proofs.runs.RunBuilder.push_run.Goals as goal

pub invariant_of-self-2 : goal.invariant_of-self-2
invariant_of-self-2 g c =
    let more : List (Option Value) = take c.args.len (drop c.args.start (g.L.Chunk.slots c.args.leaf.now)) in
    let long : length more ≡ c.args.len = omega (arith, length-take c.args.len (drop c.args.start (g.L.Chunk.slots c.args.leaf.now)), length-drop c.args.start (g.L.Chunk.slots c.args.leaf.now)) in
    let from : c.in-Some.end ≡ start_of c.self.inside.ends.items (length c.self.inside.ends.items) + c.args.len = search rules in
    let end : c.in-Some.end ≡ start_of c.self.inside.ends.items (length c.self.inside.ends.items) + length more = omega (arith, from, long) in
    let place : c.len-place.result ≡ length c.self.inside.ends.items = search rules in
    let step = written-push g.R.Reading.is_value g.R.Reading.reading g.L.Chunk.written _ _ c.self.inside.leaf c.in-Some-take.items c.copy_onto.new.builder more c.self.inside.ends.items c.push.new.self.items c.in-Some.end c.len-place.result true c.args.self.now c.in-Some-take.ensures.value c.in_ok-copy_onto.ensures.slots c.in_ok-push.ensures.items end c.self.invariant.0 place c.in_ok-add_valid.ensures.ok c.self.view_is c.self.invariant.2 (λ same. c.requires.fits) in
    let reach : Reaches (option_map (λ words. words.items) c.add_valid.new.validity) (length c.push.new.self.items) = search rules in
    (step.0, reach, step.2)

pub returns : goal.returns
returns g c =
    let more : List (Option Value) = take c.args.len (drop c.args.start (g.L.Chunk.slots c.args.leaf.now)) in
    let long : length more ≡ c.args.len = omega (arith, length-take c.args.len (drop c.args.start (g.L.Chunk.slots c.args.leaf.now)), length-drop c.args.start (g.L.Chunk.slots c.args.leaf.now)) in
    let from : c.in-Some.end ≡ start_of c.self.inside.ends.items (length c.self.inside.ends.items) + c.args.len = search rules in
    let end : c.in-Some.end ≡ start_of c.self.inside.ends.items (length c.self.inside.ends.items) + length more = omega (arith, from, long) in
    let place : c.len-place.result ≡ length c.self.inside.ends.items = search rules in
    let step = written-push g.R.Reading.is_value g.R.Reading.reading g.L.Chunk.written _ _ c.self.inside.leaf c.in-Some-take.items c.copy_onto.new.builder more c.self.inside.ends.items c.push.new.self.items c.in-Some.end c.len-place.result true c.args.self.now c.in-Some-take.ensures.value c.in_ok-copy_onto.ensures.slots c.in_ok-push.ensures.items end c.self.invariant.0 place c.in_ok-add_valid.ensures.ok c.self.view_is c.self.invariant.2 (λ same. c.requires.fits) in
    record { slots = step.1 }

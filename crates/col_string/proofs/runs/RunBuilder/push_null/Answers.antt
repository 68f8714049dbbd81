use Rattle.std.proofs.Common.{arith, rules, sym, ◌≡◌, ◌+◌, length, false, []}
use Rattle.std.specs.Prelude.{List, Option}
use Rattle.std.specs.Option.{option_map}
use Rattle.std.proofs.lemmas.List.{append-nil}
use Rattle.col_model.specs.Value.{Value}
use Rattle.col_buffer.specs.Validity.{Reaches}
use Rattle.col_string.specs.Runs.{start_of}
use Rattle.col_string.proofs.RunLaws.{written-push}
use Rattle.col_string.proofs.runs.RunBuilder.push_null.Goals as goal

pub invariant_of-self-2 : goal.invariant_of-self-2
invariant_of-self-2 g c =
    let none : List (Option Value) = [] in
    let from : c.last_end-end.result ≡ start_of c.self.inside.ends.items (length c.self.inside.ends.items) = search rules in
    let end : c.last_end-end.result ≡ start_of c.self.inside.ends.items (length c.self.inside.ends.items) + length none = omega (arith, from) in
    let place : c.len-place.result ≡ length c.self.inside.ends.items = search rules in
    let step = written-push g.R.Reading.is_value g.R.Reading.reading g.L.Chunk.written _ _ c.self.inside.leaf c.in-Some.items c.in-Some.items none c.self.inside.ends.items c.push.new.self.items c.last_end-end.result c.len-place.result false c.args.self.now c.in-Some.ensures.value (sym (append-nil (g.L.Chunk.written c.in-Some.items))) c.in_ok-push.ensures.items end c.self.invariant.0 place c.in_ok-add_valid.ensures.ok c.self.view_is c.self.invariant.2 (λ same. search rules) in
    let reach : Reaches (option_map (λ words. words.items) c.add_valid.new.validity) (length c.push.new.self.items) = search rules in
    (step.0, reach, step.2)

pub returns : goal.returns
returns g c =
    let none : List (Option Value) = [] in
    let from : c.last_end-end.result ≡ start_of c.self.inside.ends.items (length c.self.inside.ends.items) = search rules in
    let end : c.last_end-end.result ≡ start_of c.self.inside.ends.items (length c.self.inside.ends.items) + length none = omega (arith, from) in
    let place : c.len-place.result ≡ length c.self.inside.ends.items = search rules in
    let step = written-push g.R.Reading.is_value g.R.Reading.reading g.L.Chunk.written _ _ c.self.inside.leaf c.in-Some.items c.in-Some.items none c.self.inside.ends.items c.push.new.self.items c.last_end-end.result c.len-place.result false c.args.self.now c.in-Some.ensures.value (sym (append-nil (g.L.Chunk.written c.in-Some.items))) c.in_ok-push.ensures.items end c.self.invariant.0 place c.in_ok-add_valid.ensures.ok c.self.view_is c.self.invariant.2 (λ same. search rules) in
    record { slots = step.1 }

use Rattle.std.proofs.Common.{arith, subst, ap, sym, ◌∙◌, ◌≡◌, ◌+◌, ◌≤◌, length, drop}
use Rattle.std.specs.List.{list_all}
use Rattle.std.specs.Option.{option_map}
use Rattle.col_buffer.specs.Validity.{Reaches}
use Rattle.col_buffer.proofs.SlotLaws.{Reaches-le}
use Rattle.col_string.specs.Runs.{passes}
use Rattle.col_string.proofs.RunLaws.{Ends-same, length-run_slots, list_all-drop, list_all-take, run_slots-part}
use Rattle.col_string.proofs.runs.RunChunkChunk.share.Goals as goal

pub invariant_of-result : goal.invariant_of-result
invariant_of-result g c =
    let size : length c.args.self.now ≡ c.self.inside.len = sym (ap length c.self.view_is) ∙ length-run_slots g.R.Reading.reading (option_map (λ words. words.value.items) c.self.inside.validity) (g.L.Chunk.slots c.self.inside.leaf) c.self.inside.ends.value.items c.self.inside.offset c.self.inside.len in
    let same_ends : c.in_ok-ends.ends.value.items ≡ c.self.inside.ends.value.items = ap (λ v. v.items) c.in_ok-ends.ensures.cases in
    let room : c.self.inside.offset + c.args.offset + c.args.len ≤ length c.in_ok-ends.ends.value.items = omega (arith, ap length same_ends, size) in
    let reach : Reaches (option_map (λ words. words.value.items) c.in_ok-validity.validity) (c.self.inside.offset + c.args.offset + c.args.len) = subst (λ ws. Reaches ws (c.self.inside.offset + c.args.offset + c.args.len)) (sym c.in_ok-validity.ensures.words) (Reaches-le _ _ _ c.self.invariant.2 (omega (arith, size))) in
    let part = run_slots-part g.R.Reading.reading _ _ _ _ c.self.inside.ends.value.items c.in_ok-ends.ends.value.items c.self.inside.offset c.self.inside.len c.args.offset c.args.len c.args.self.now c.in_ok-validity.ensures.words c.in_ok-leaf.ensures.slots same_ends c.self.view_is c.requires.inside in
    let p = passes g.R.Reading.is_value in (
      room,
      Ends-same _ _ _ _ c.in_ok-leaf.ensures.slots same_ends c.self.invariant.1,
      reach,
      ap (list_all p) part ∙ list_all-take p c.args.len (drop c.args.offset c.args.self.now) (list_all-drop p c.args.offset c.args.self.now (ap (list_all p) (sym c.self.view_is) ∙ c.self.invariant.3)),
    )

pub returns : goal.returns
returns g c = record { slots = run_slots-part g.R.Reading.reading _ _ _ _ c.self.inside.ends.value.items c.in_ok-ends.ends.value.items c.self.inside.offset c.self.inside.len c.args.offset c.args.len c.args.self.now c.in_ok-validity.ensures.words c.in_ok-leaf.ensures.slots (ap (λ v. v.items) c.in_ok-ends.ensures.cases) c.self.view_is c.requires.inside }

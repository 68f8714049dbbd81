use Rattle.std.proofs.Common.{arith, rules, ap, true, ◌∙◌, ◌≡◌, ◌+◌, length, [], Vec, Global, ℕ}
use Rattle.std.specs.Prelude.{List, Option, Some, ◌++◌, ◌∷◌, map}
use Rattle.std.specs.Option.{option_map}
use Rattle.std.proofs.lemmas.List.{length-append, length-map}
use Rattle.col_model.specs.Value.{Value}
use Rattle.col_buffer.specs.Validity.{Reaches}
use Rattle.col_string.specs.Runs.{start_of}
use Rattle.col_string.specs.Texts.{byte_slot}
use Rattle.col_string.proofs.ByteLaws.{join-written, reading-join}
use Rattle.col_string.proofs.RunLaws.{written-push}
use Rattle.col_string.proofs.readings.RunBuilder+PlainBytes+R.push_joined.Goals as goal

pub invariant_of-self-2 : goal.invariant_of-self-2
invariant_of-self-2 g c =
    let a : List ℕ = c.args.left.now in
    let b : List ℕ = c.args.right.now in
    let more : List (Option Value) = map byte_slot a ++ map byte_slot b in
    let value = g.met.R.ByteReading.reads more ∙ reading-join a b in
    let long : length more ≡ length a + length b = length-append (map byte_slot a) (map byte_slot b) ∙ omega (arith, length-map a byte_slot, length-map b byte_slot) in
    let from : c.in-Some-checked_add.end ≡ start_of c.self.inside.ends.items (length c.self.inside.ends.items) + length a + length b = search rules in
    let end : c.in-Some-checked_add.end ≡ start_of c.self.inside.ends.items (length c.self.inside.ends.items) + length more = omega (arith, from, long) in
    let place : c.len-place.result ≡ length c.self.inside.ends.items = search rules in
    let written = join-written c.in-Some-take.items.items c.extend_from_slice-2.new.self.items a b c.extend_from_slice.new.self.items c.in_ok-extend_from_slice.ensures.items c.in_ok-extend_from_slice-2.ensures.items in
    let step = written-push g.R.Reading.is_value g.R.Reading.reading (λ (v : Vec ℕ Global). map byte_slot v.items) _ _ c.self.inside.leaf c.in-Some-take.items c.extend_from_slice-2.new.self more c.self.inside.ends.items c.push.new.self.items c.in-Some-checked_add.end c.len-place.result true c.args.self.now c.in-Some-take.ensures.value written c.in_ok-push.ensures.items end c.self.invariant.0 place c.in_ok-add_valid.ensures.ok c.self.view_is c.self.invariant.2 (λ same. ap g.R.Reading.is_value value ∙ c.requires.fits) in
    let reach : Reaches (option_map (λ words. words.items) c.add_valid.new.validity) (length c.push.new.self.items) = search rules in
    (step.0, reach, step.2)

pub returns : goal.returns
returns g c =
    let a : List ℕ = c.args.left.now in
    let b : List ℕ = c.args.right.now in
    let more : List (Option Value) = map byte_slot a ++ map byte_slot b in
    let value = g.met.R.ByteReading.reads more ∙ reading-join a b in
    let long : length more ≡ length a + length b = length-append (map byte_slot a) (map byte_slot b) ∙ omega (arith, length-map a byte_slot, length-map b byte_slot) in
    let from : c.in-Some-checked_add.end ≡ start_of c.self.inside.ends.items (length c.self.inside.ends.items) + length a + length b = search rules in
    let end : c.in-Some-checked_add.end ≡ start_of c.self.inside.ends.items (length c.self.inside.ends.items) + length more = omega (arith, from, long) in
    let place : c.len-place.result ≡ length c.self.inside.ends.items = search rules in
    let written = join-written c.in-Some-take.items.items c.extend_from_slice-2.new.self.items a b c.extend_from_slice.new.self.items c.in_ok-extend_from_slice.ensures.items c.in_ok-extend_from_slice-2.ensures.items in
    let step = written-push g.R.Reading.is_value g.R.Reading.reading (λ (v : Vec ℕ Global). map byte_slot v.items) _ _ c.self.inside.leaf c.in-Some-take.items c.extend_from_slice-2.new.self more c.self.inside.ends.items c.push.new.self.items c.in-Some-checked_add.end c.len-place.result true c.args.self.now c.in-Some-take.ensures.value written c.in_ok-push.ensures.items end c.self.invariant.0 place c.in_ok-add_valid.ensures.ok c.self.view_is c.self.invariant.2 (λ same. ap g.R.Reading.is_value value ∙ c.requires.fits) in
    record { slots = step.1 ∙ ap (λ v. c.args.self.now ++ Some v ∷ []) value }

use Rattle.std.proofs.Common.{ap, ◌/◌, List, ℕ, slice_set}
use Rattle.col_buffer.proofs.SlotLaws.{clears-one}
use Rattle.col_buffer.proofs.validity.all_but_one.Goals as goal

pub returns : goal.returns
returns c = record {
  words = clears-one c.args.count c.args.place c.with_bit.result _ c.requires.inside (ap (λ (l : List ℕ). slice_set l (c.args.place / 64) c.with_bit.result) (c.in_ok-words.ensures.items_if_clones_equal (λ y e. e))) c.with_bit.ensures.here c.with_bit.ensures.others;
}

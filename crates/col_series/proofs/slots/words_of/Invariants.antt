use Rattle.std.proofs.Common.{◌≡◌, ◌++◌, true, drop, map}
use Rattle.std.specs.List.{list_all}
use Rattle.col_model.specs.Value.{integer_slot}
use Rattle.col_model.specs.Words.{is_word_slot}
use Rattle.col_series.proofs.slots.words_of.Given as goal

abbrev pub invariant-loop-slot : goal.invariant-loop-slot
invariant-loop-slot g l = record {
  same : l.builder ++ map integer_slot (drop l.slot-index l.slots) ≡ map integer_slot l.slots;
  fit : list_all (is_word_slot g.W.Word.word_type) (map integer_slot (drop l.slot-index l.slots)) ≡ true;
}

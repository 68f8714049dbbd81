use Rattle.std.proofs.Common.{◌≡◌, ◌+◌, ◌≤◌, ◌++◌, length}
use Rattle.col_token.specs.Tokens.{words_in}
use Rattle.col_text.specs.Slots.{lengths_from, slots_of_line, with_front}
use Rattle.col_text.proofs.slots.read_slots.Given as goal

-- what is read and what is left come to the whole
abbrev pub invariant-slots : goal.invariant-slots
invariant-slots g l = record {
  slots : with_front l.slots (slots_of_line g.V.Values.range l.rest) ≡ slots_of_line g.V.Values.range l.line;
  lengths : l.lengths.items ++ lengths_from l.begun (words_in l.rest) ≡ lengths_from 0 (words_in l.line);
  room : l.begun + length l.rest ≤ length l.line;
}

abbrev pub decreases-slots : goal.decreases-slots
decreases-slots g l = length l.rest

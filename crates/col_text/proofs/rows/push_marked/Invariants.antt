use Rattle.std.proofs.Common.{◌≡◌, ◌++◌, ◌+◌, ◌∷◌, [], Some, drop}
use Rattle.std.specs.List.{flat_map}
use Rattle.col_buffer.specs.Validity.{masked}
use Rattle.col_text.specs.Answer.{slot_line}
use Rattle.col_text.proofs.rows.push_marked.Given as goal

-- what is written and what is left come to the whole
abbrev pub invariant-loop-at : goal.invariant-loop-at
invariant-loop-at g l = record {
  text : l.text.items ++ flat_map slot_line (masked g.W.Word.reading (Some l.words) (l.offset + l.at) (drop l.at l.values))
      ≡ l.initial.text.items ++ flat_map slot_line (masked g.W.Word.reading (Some l.words) l.offset l.values);
  end : drop 20 l.line ≡ 10 ∷ [];
}

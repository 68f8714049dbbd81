use Rattle.std.proofs.Common.{◌≡◌, ◌++◌, ◌*◌, Some, drop, length}
use Rattle.std.specs.Prelude.{min}
use Rattle.col_buffer.specs.Validity.{masked}
use Rattle.col_rule.proofs.filling.fill_marked.Given as goal

-- what is done and what is left make the whole
abbrev pub invariant-loop-at : goal.invariant-loop-at
invariant-loop-at g l =
    let reading = g.U.Word.reading in
    let slots = g.S.Source.values l.source in
    let keeps = g.S.Source.keeps l.source in
    record {
      values : masked reading (Some l.valid.items) 0 l.values.items ++ drop (64 * l.at) slots ≡ slots;
      keeps : masked reading (Some l.kept.items) 0 l.values.items ++ drop (64 * l.at) keeps ≡ keeps;
      len : length l.values.items ≡ min (64 * l.at) (length slots);
      valid : length l.valid.items ≡ l.at;
      kept : length l.kept.items ≡ l.at;
    }

use Rattle.std.proofs.Common.{◌≡◌, ◌++◌, ◌+◌, ◌-◌, ◌∷◌, [], Some, take, drop, length}
use Rattle.col_buffer.specs.Validity.{masked}
use Rattle.col_rule.proofs.filling.fill_word.Given as goal

-- what is done and what is left make the whole
abbrev pub invariant-loop-i : goal.invariant-loop-i
invariant-loop-i g l =
    let count = length l.initial.values.items in
    let reading = g.U.Word.reading in
    let slots = g.S.Source.values l.source in
    let keeps = g.S.Source.keeps l.source in
    record {
      values : masked reading (Some (l.valid ∷ [])) 0 (drop count l.values.items) ++ drop l.i slots ≡ drop l.start slots;
      keeps : masked reading (Some (l.kept ∷ [])) 0 (drop count l.values.items) ++ drop l.i keeps ≡ drop l.start keeps;
      before : take count l.values.items ≡ l.initial.values.items;
      len : length l.values.items ≡ count + (l.i - l.start);
    }

use Rattle.std.proofs.Common.{◌≡◌, ◌++◌, None, true, take, drop, length}
use Rattle.col_buffer.specs.Validity.{masked}
use Rattle.col_rule.proofs.filling.fill_plain.Given as goal

-- what is done and what is left make the whole, while all is kept
abbrev pub invariant-loop-i : goal.invariant-loop-i
invariant-loop-i g l =
    let reading = g.U.Word.reading in
    let slots = g.S.Source.values l.source in
    let keeps = g.S.Source.keeps l.source in
    record {
      values : l.all ≡ true → masked reading None 0 (take l.i l.values) ++ drop l.i slots ≡ slots;
      keeps : l.all ≡ true → masked reading None 0 (take l.i l.values) ++ drop l.i keeps ≡ keeps;
      len : length l.values ≡ length slots;
    }

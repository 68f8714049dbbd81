use Rattle.std.proofs.Common.{◌≡◌, ◌++◌, ◌∷◌, [], take, drop}
use Rattle.std.specs.List.{flat_map}
use Rattle.std.specs.Fmt.{signed_decimal}
use Rattle.col_text.specs.Answer.{line_of}
use Rattle.col_text.proofs.rows.push_plain.Given as goal

abbrev pub invariant-loop-value : goal.invariant-loop-value
invariant-loop-value g l = record {
  text : l.text.items ≡ l.initial.text.items
      ++ flat_map (λ word. line_of (signed_decimal (g.W.Word.reading word))) (take l.value-index l.values);
  end : drop 20 l.line ≡ 10 ∷ [];
}

use Rattle.std.proofs.Common.{◌≡◌, ◌∙◌, ◌++◌, ap, subst, List, ℕ}
use Rattle.std.specs.Prelude.{OnOk}
use Rattle.std.specs.List.{flat_map}
use Rattle.col_text.specs.Answer.{slot_line}
use Rattle.col_text.proofs.RowLemmas.{plain-lines}
use Rattle.col_text.proofs.rows.push_chunk.Goals as goal

pub returns-in-None : goal.returns-in-None
returns-in-None g c =
    let parts = c.buffers-offset.result in
    let slots = rw c.in-None.is at c.buffers-offset.ensures.slots in
    record {
      text = subst (λ (lines : List ℕ). OnOk c.push_plain.result (c.push_plain.new.text.items ≡ c.args.text.now.items ++ lines))
          (plain-lines g.W.Word.reading parts.2 parts.0.now ∙ ap (flat_map slot_line) slots) c.push_plain.ensures.text;
    }

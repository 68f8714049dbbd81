use Rattle.std.proofs.Common.{ap, refl, ◌∙◌, length, ℕ}
use Rattle.std.specs.Prelude.{replicate, Option, None}
use Rattle.std.proofs.lemmas.List.{length-replicate}
use Rattle.col_model.specs.Value.{Value}
use Rattle.std.specs.List.{list_all}
use Rattle.col_string.specs.Runs.{passes}
use Rattle.col_string.proofs.RunLaws.{list_all-replicate, run_slots-nulls}
use Rattle.col_string.proofs.runs.RunChunkChunk.nulls.Goals as goal

pub returns : goal.returns
returns g c = record { slots = c.in_ok-chunk.ensures.slots ∙ run_slots-nulls g.R.Reading.reading _ c.in_ok-ends.ends.items c.in_ok-words.words.items _ _ c.in_ok-words.ensures.items ∙ ap (λ (n : ℕ). replicate {A = Option Value} n None) (ap length c.in_ok-ends.ensures.items ∙ length-replicate c.args.len 0) }

pub from_parts-requires-clause-fit : goal.from_parts-requires-clause-fit
from_parts-requires-clause-fit g c =
    let p = passes g.R.Reading.is_value in
    ap (list_all p) (run_slots-nulls g.R.Reading.reading _ c.in_ok-ends.ends.items c.in_ok-words.words.items _ (length c.in_ok-ends.ends.items) c.in_ok-words.ensures.items) ∙ list_all-replicate p (length c.in_ok-ends.ends.items) None refl

use Rattle.std.proofs.Common.{ap, sym, ◌∙◌, length}
use Rattle.std.specs.Int.{w64}
use Rattle.std.proofs.lemmas.Int.{to_z-of_z}
use Rattle.col_chunk.specs.Chunks.{joined, moved_slots}
use Rattle.col_chunk.proofs.MovedLaws.{moved-rows, long_rows}
use Rattle.col_chunk.proofs.parts.shifted_chunks.Goals as goal

pub returns : goal.returns
returns g c =
    let slots = joined g.C.Chunk.slots c.args.chunks.now in
    let is = c.in_ok-answer.ensures.slots ∙ ap (λ p. moved_slots p slots) (to_z-of_z w64 c.args.periods c.ranges.periods) ∙ moved-rows c.args.periods slots in
    record { slots = is; len = ap length is ∙ long_rows slots _ ∙ sym c.requires.len }

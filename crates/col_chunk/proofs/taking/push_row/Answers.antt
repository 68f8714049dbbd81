use Rattle.std.proofs.Common.{◌≡◌, ◌∙◌, ◌∷◌, ◌++◌, [], ℕ, None, ap, sym, arith}
use Rattle.std.specs.Prelude.{slice_index_or}
use Rattle.std.specs.Option.{option_and_then}
use Rattle.col_buffer.proofs.SlotLaws.{on_ok}
use Rattle.col_chunk.specs.Chunks.{joined}
use Rattle.col_chunk.proofs.StartLaws.{last-start, no-row}
use Rattle.col_chunk.proofs.taking.push_row.Goals as goal
use Rattle.col_chunk.proofs.taking.push_row.Goals.{in-Some+else-row-starts, in-None}

pub halved-place-requires-clause-row : goal.halved-place-requires-clause-row
halved-place-requires-clause-row g c =
    omega (arith, c.if-row-starts.true, last-start g.C.Chunk.slots c.args.starts.now c.args.chunks.now c.requires.starts)

pub returns : goal.returns
returns g c =
    let rows = joined g.C.Chunk.slots c.args.chunks.now in
    let last = last-start g.C.Chunk.slots c.args.starts.now c.args.chunks.now c.requires.starts in
    let none : None ≡ option_and_then (λ (n : ℕ). slice_index_or rows n None) c.args.row = elim c.match-row.branch [
      | in-Some+else-row-starts w ↦ no-row rows c.args.row w.in-Some.row w.in-Some.is (omega (arith, w.if-row-starts.false, last))
      | in-None w ↦ sym (ap (option_and_then (λ (n : ℕ). slice_index_or rows n None)) w.in-None.is)
    ] in
    record {
      slots = on_ok c.push_onto-2.result (λ p. p ∙ ap (λ s. g.C.Chunk.written c.args.builder.now ++ s ∷ [])
          (ap (λ ss. slice_index_or ss 0 None) c.requires.null ∙ none)) c.push_onto-2.ensures.slots;
    }

use Rattle.std.proofs.Common.{refl, arith, ap, sym, ◌∙◌, length, take, drop}
use Rattle.std.proofs.lemmas.Result.{IfOk-weaker}
use Rattle.col_chunk.proofs.StartLaws.{left-at}
use Rattle.col_chunk.proofs.array.ArrayOf.next_rows.Goals as goal

pub rows_at-requires : goal.rows_at-requires
rows_at-requires g c =
    let is = left-at g.C.Chunk.slots c.args.place.chunk c.args.place.skip c.as_slice.result.now c.self.inside.chunks.items _ _ c.as_slice.ensures.value refl refl c.self.view_is in
    record { inside = omega (arith, ap length is, c.requires.inside) }

pub returns-clause-slots : goal.returns-clause-slots
returns-clause-slots g c =
    let is = left-at g.C.Chunk.slots c.args.place.chunk c.args.place.skip c.as_slice.result.now c.self.inside.chunks.items _ _ c.as_slice.ensures.value refl refl c.self.view_is in
    IfOk-weaker c.rows_at.result _ _ (λ answer p. p ∙ ap (take c.args.len) is) c.rows_at.ensures.slots

pub returns-clause-rest : goal.returns-clause-rest
returns-clause-rest g c =
    let is = left-at g.C.Chunk.slots c.args.place.chunk c.args.place.skip c.as_slice.result.now c.self.inside.chunks.items _ _ c.as_slice.ensures.value refl refl c.self.view_is in
    IfOk-weaker c.rows_at.result _ _ (λ answer p.
    sym (left-at g.C.Chunk.slots answer.1.chunk answer.1.skip c.as_slice.result.now c.self.inside.chunks.items _ _ c.as_slice.ensures.value refl refl c.self.view_is)
    ∙ p ∙ ap (drop c.args.len) is) c.rows_at.ensures.rest

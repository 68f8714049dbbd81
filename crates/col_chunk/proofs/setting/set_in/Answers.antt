use Rattle.col_chunk.proofs.Pieces.{set-piece, same-piece, same-lengths}
use Rattle.col_buffer.proofs.SlotLaws.{on_ok, on_err}
use Rattle.col_chunk.proofs.setting.set_in.Goals as goal

pub returns-clause-ok : goal.returns-clause-ok
returns-clause-ok g c =
    on_ok c.set.result (set-piece g.C.Chunk.slots c.args.chunks.now c.chunk_of-at.result.0 c.chunk_of-at.result.1 c.args.index c.set.new.self c.index-chunks-at.result _ c.chunk_of-at.ensures.chunk c.chunk_of-at.ensures.before c.chunk_of-at.ensures.inside) c.set.ensures.ok

pub returns-clause-err : goal.returns-clause-err
returns-clause-err g c =
    on_err c.set.result (same-piece g.C.Chunk.slots c.args.chunks.now c.chunk_of-at.result.0 c.set.new.self c.index-chunks-at.result c.chunk_of-at.ensures.chunk) c.set.ensures.err

pub returns-clause-lengths : goal.returns-clause-lengths
returns-clause-lengths g c =
    same-lengths g.C.Chunk.slots c.args.chunks.now c.chunk_of-at.result.0 c.set.new.self c.index-chunks-at.result c.chunk_of-at.ensures.chunk c.set.ensures.len

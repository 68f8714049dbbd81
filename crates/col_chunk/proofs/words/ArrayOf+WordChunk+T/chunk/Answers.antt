use Rattle.std.proofs.Common.{arith, ap, sym, ◌≡◌, ◌∙◌, ◌<◌, length}
use Rattle.std.proofs.lemmas.List.{length-map}
use Rattle.col_model.specs.Chunked.{Chunked}
use Rattle.col_model.specs.ChunkCalls.{chunk_slots}
use Rattle.col_chunk.proofs.Pieces.{piece-at}
use Rattle.col_chunk.proofs.words.ArrayOf+WordChunk+T.chunk.Goals as goal

pub returns : goal.returns
returns g c =
    let chunks = c.self.inside.chunks.items in
    let long : length c.args.self.now.chunk_lengths ≡ length chunks = sym (ap (λ (v : Chunked). length v.chunk_lengths) c.self.view_is) ∙ length-map chunks (λ chunk. length chunk) in
    let inside : c.args.index < length chunks = omega (arith, long, c.requires.chunk) in
    record { slots = c.index.ensures ∙ piece-at (λ chunk. chunk) chunks c.args.index c.index.result.now inside ∙ ap (λ (v : Chunked). chunk_slots c.args.index v) c.self.view_is }

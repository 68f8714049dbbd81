use Rattle.std.proofs.Common.{ℕ}
use Rattle.std.specs.Prelude.{pos}
use Rattle.std.specs.Int.{w32}
use Rattle.col_model.specs.Arithmetic.{Unsigned, wrapped_value}
use Rattle.col_chunk.proofs.TakeLaws.{row-of-slot}
use Rattle.col_chunk.proofs.taking.WordChunkIdxSizeIndices.row_at.Goals as goal

pub returns-in-Some : goal.returns-in-Some
returns-in-Some c = record {
  row = row-of-slot (λ (x : ℕ). wrapped_value (Unsigned w32) (pos x)) c.in-Some.index _ _ c.in-Some.ensures.slot c.row_of.ensures.row;
}

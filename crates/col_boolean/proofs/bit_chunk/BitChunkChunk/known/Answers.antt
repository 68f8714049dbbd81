use Rattle.std.proofs.Common.{ap, sym, ◌∙◌}
use Rattle.std.specs.List.{list_all}
use Rattle.col_types.specs.declared.data_type.DataType.{Boolean}
use Rattle.col_model.specs.Column.{is_slot_of}
use Rattle.col_boolean.proofs.BitLaws.{all-bit_slots}
use Rattle.col_boolean.proofs.bit_chunk.BitChunkChunk.known.Goals as goal

pub returns : goal.returns
returns c =
    record { fit = ap (list_all (is_slot_of Boolean)) (sym c.self.view_is) ∙ all-bit_slots _ _ c.self.inside.offset c.self.inside.len }

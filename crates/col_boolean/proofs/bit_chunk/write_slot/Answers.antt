use Rattle.std.proofs.Common.{sym}
use Rattle.col_buffer.proofs.SlotLaws.{on_err}
use Rattle.col_boolean.proofs.BitLaws.{unseen}
use Rattle.col_boolean.proofs.bit_chunk.write_slot.Goals as goal

pub returns-clause-unchanged : goal.returns-clause-unchanged
returns-clause-unchanged c =
    on_err c.set_valid-3.result (λ same. unseen _ _ _ _ c.args.count c.args.place c.args.value (sym c.if-is_valid.ensures.valid) c.in_ok-set_valid.ensures.ok same) c.set_valid-3.ensures.err

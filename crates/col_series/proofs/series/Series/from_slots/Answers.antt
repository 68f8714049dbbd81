use Rattle.std.proofs.Common.{◌≡◌, true, map, refl, sym, arith, ◌∙◌}
use Rattle.std.specs.Int.{w32, w64}
use Rattle.std.specs.List.{list_all}
use Rattle.col_model.specs.Arithmetic.{Signed}
use Rattle.col_model.specs.Value.{integer_slot}
use Rattle.col_series.specs.Slots.{is_fit}
use Rattle.col_series.proofs.CastLemmas.{in-day}
use Rattle.col_series.proofs.ColumnLemmas.{unrefused_fit}
use Rattle.col_series.proofs.SlotLemmas.{fit-words}
use Rattle.col_series.proofs.TypeLemmas.{values-ticks}
use Rattle.col_series.proofs.series.Series.from_slots.Goals as goal

pub words_of-requires-clause-fit : goal.words_of-requires-clause-fit
words_of-requires-clause-fit c =
    let fit : list_all (is_fit c.args.dtype.now) c.args.slots.now ≡ true = unrefused_fit c.args.dtype.now c.args.slots.now (omega arith) (sym c.in-None.ensures.row) in
    fit-words c.args.dtype.now (Signed w32) c.requires.built_type (c.if-is_in_32_bits.ensures.narrow refl) c.args.slots.now fit

pub words_of-requires-2-clause-fit : goal.words_of-requires-2-clause-fit
words_of-requires-2-clause-fit c =
    let fit : list_all (is_fit c.args.dtype.now) c.args.slots.now ≡ true = unrefused_fit c.args.dtype.now c.args.slots.now (omega arith) (sym c.in-None.ensures.row) in
    fit-words c.args.dtype.now (Signed w64) c.requires.built_type (c.if-is_in_32_bits.ensures.wide refl) c.args.slots.now fit

pub from_int64-requires-clause-day : goal.from_int64-requires-clause-day
from_int64-requires-clause-day c =
    let fit : list_all (is_fit c.args.dtype.now) c.args.slots.now ≡ true = unrefused_fit c.args.dtype.now c.args.slots.now (omega arith) (sym c.in-None.ensures.row) in
    rw (c.clone_flat-2.ensures.equal, c.in_ok-words-2.ensures.column)
    (in-day c.args.dtype.now (map integer_slot c.args.slots.now) (values-ticks c.args.dtype.now c.args.slots.now ∙ fit))

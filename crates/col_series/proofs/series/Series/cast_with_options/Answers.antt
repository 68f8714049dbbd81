use Rattle.std.proofs.Common.{◌≡◌, false, sym, ◌∙◌}
use Rattle.col_types.specs.DataType.{is_bad_target}
use Rattle.col_series.proofs.CastLemmas.{cast-is}
use Rattle.col_series.proofs.series.Series.cast_with_options.Goals as goal

pub returns : goal.returns
returns c =
    let good : is_bad_target c.args.dtype.now ≡ false = sym c.is_bad_target.ensures.value ∙ c.if-is_bad_target.false in
    record { column = rw (cast-is c.args.self.now.column c.args.dtype.now c.args.options c.requires.built_target good c.known.ensures.unmarked) c.cast_to.ensures.column }

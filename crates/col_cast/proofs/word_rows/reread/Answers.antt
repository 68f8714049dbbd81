use Rattle.std.proofs.Common.{◌≡◌, false, sym}
use Rattle.col_types.specs.declared.cast_options.CastOptions.TheVariants.{NonStrict}
use Rattle.col_logical.specs.Logical.{is_time}
use Rattle.col_cast.proofs.RowLaws.{in_word-other}
use Rattle.col_cast.proofs.word_rows.reread.Goals as goal

pub returns-then-not-is_time-clause-lost : goal.returns-then-not-is_time-clause-lost
returns-then-not-is_time-clause-lost g c =
    let e : is_time c.args.target.now ≡ false = sym c.if-not-is_time.ensures.time in
    rw (in_word-other c.args.target.now NonStrict g.U.Word.word_type e) c.change_array.ensures.lost

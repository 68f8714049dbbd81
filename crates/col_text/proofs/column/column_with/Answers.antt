use Rattle.std.proofs.Common.{◌≡◌, rules, refl, Some}
use Rattle.std.specs.Int.{w32, w64}
use Rattle.col_token.specs.Tokens.{words_in}
use Rattle.col_model.specs.Arithmetic.{Signed}
use Rattle.col_model.specs.Column.{values_of}
use Rattle.col_model.specs.Words.{word_dtype}
use Rattle.col_text.specs.Slots.{interval_of, DateRange, TimeRange, WordRange}
use Rattle.col_text.proofs.ColumnLemmas.{column_reads, column_stops, times_lie}
use Rattle.col_text.proofs.column.column_with.Goals as goal

pub read_ticks-requires-clause-day : goal.read_ticks-requires-clause-day
read_ticks-requires-clause-day c =
    rw c.in-Time.is (times_lie c.args.name.now (word_dtype (Signed w64)) (words_in c.args.line.now) c.in-Ok-words_with.words c.in-Ok-words_with.ensures.column)

pub returns-in-Ok : goal.returns-in-Ok
returns-in-Ok c =
    let values : values_of c.args.dtype ≡ Some (interval_of DateRange) = rw c.in-Date.is refl in
    record {
      column = rw (column_reads c.args.name.now c.args.dtype (word_dtype (Signed w32)) DateRange (words_in c.args.line.now) c.in-Ok.words c.requires.built values c.in-Ok.ensures.column) c.read_days.ensures.column;
    }

pub returns-in-Err : goal.returns-in-Err
returns-in-Err c =
    let values : values_of c.args.dtype ≡ Some (interval_of DateRange) = rw c.in-Date.is refl in
    record { column = column_stops c.args.name.now c.args.dtype (word_dtype (Signed w32)) DateRange (words_in c.args.line.now) c.in-Err.error c.requires.built values c.in-Err.ensures.column }

pub returns-in-Ok-words_with : goal.returns-in-Ok-words_with
returns-in-Ok-words_with c =
    let values : values_of c.args.dtype ≡ Some (interval_of TimeRange) = rw c.in-Time.is refl in
    record {
      column = rw (column_reads c.args.name.now c.args.dtype (word_dtype (Signed w64)) TimeRange (words_in c.args.line.now) c.in-Ok-words_with.words c.requires.built values c.in-Ok-words_with.ensures.column) c.read_ticks.ensures.column;
    }

pub returns-in-Err-words_with : goal.returns-in-Err-words_with
returns-in-Err-words_with c =
    let values : values_of c.args.dtype ≡ Some (interval_of TimeRange) = rw c.in-Time.is refl in
    record { column = column_stops c.args.name.now c.args.dtype (word_dtype (Signed w64)) TimeRange (words_in c.args.line.now) c.in-Err-words_with.error c.requires.built values c.in-Err-words_with.ensures.column }

pub returns-in-Ok-words_with-2 : goal.returns-in-Ok-words_with-2
returns-in-Ok-words_with-2 c =
    let values : values_of c.args.dtype ≡ Some (interval_of WordRange) = search (rules, c.in-Datetime.is) in
    record {
      column = rw (column_reads c.args.name.now c.args.dtype (word_dtype (Signed w64)) WordRange (words_in c.args.line.now) c.in-Ok-words_with-2.words c.requires.built values c.in-Ok-words_with-2.ensures.column) c.read_ticks-in-Ok-words_with-2.ensures.column;
    }

pub returns-in-Err-words_with-2 : goal.returns-in-Err-words_with-2
returns-in-Err-words_with-2 c =
    let values : values_of c.args.dtype ≡ Some (interval_of WordRange) = search (rules, c.in-Datetime.is) in
    record { column = column_stops c.args.name.now c.args.dtype (word_dtype (Signed w64)) WordRange (words_in c.args.line.now) c.in-Err-words_with-2.error c.requires.built values c.in-Err-words_with-2.ensures.column }

use Rattle.std.proofs.Common.{◌∙◌, ap, refl, subst, sym}
use Rattle.std.specs.Int.{w32, w64}
use Rattle.std.specs.Prelude.{Result}
use Rattle.col_types.specs.PolarsError.{GivesBy}
use Rattle.col_types.specs.declared.error.PolarsError.{PolarsError}
use Rattle.col_model.specs.Arithmetic.{Signed}
use Rattle.col_model.specs.Chunked.{column_of}
use Rattle.col_model.specs.Column.{Column}
use Rattle.col_model.specs.Words.{word_dtype}
use Rattle.col_cast.specs.Casts.{kept_in, rule_in, word_of}
use Rattle.col_series.proofs.CastLemmas.{cast-given, given-same, lost-few, ruled-day}
use Rattle.col_series.proofs.TableLemmas.{built-word, chosen-kept, chosen-to}
use Rattle.col_series.proofs.casts.in_type.Goals as goal

pub of_days-requires-clause-short : goal.of_days-requires-clause-short
of_days-requires-clause-short g c = lost-few _ c.args.words.now.column.slots c.in-Ok.changed.lost c.requires.short c.in-Ok.ensures.lost

pub cast_words-requires-2-clause-target : goal.cast_words-requires-2-clause-target
cast_words-requires-2-clause-target g c =
    ap word_of (sym (chosen-to c.args.options c.args.rule.now.from c.args.target.now c.args.rule.now c.requires.built_type c.requires.rule))
    ∙ built-word c.args.target.now c.requires.built_type ∙ c.if-is_in_32_bits.ensures.wide refl

pub of_ticks-requires-clause-day : goal.of_ticks-requires-clause-day
of_ticks-requires-clause-day g c =
    ruled-day c.args.options c.args.rule.now.from c.args.target.now c.args.rule.now (word_dtype (Signed w64)) c.args.words.now c.in-Ok-cast_words.changed.array c.requires.built_source
    c.requires.built_type c.requires.rule c.requires.values c.in-Ok-cast_words.ensures.column

pub of_ticks-requires-clause-short : goal.of_ticks-requires-clause-short
of_ticks-requires-clause-short g c = lost-few _ c.args.words.now.column.slots c.in-Ok-cast_words.changed.lost c.requires.short c.in-Ok-cast_words.ensures.lost

pub returns-in-Ok : goal.returns-in-Ok
returns-in-Ok g c = record {
  column = subst (λ (r : Result Column PolarsError). GivesBy column_of c.of_days.result r)
      (cast-given c.args.options (rule_in c.args.rule.now).formula (kept_in c.args.rule.now) c.args.target.now (word_dtype (Signed w32)) c.args.words.now
      c.in-Ok.changed.array c.in-Ok.changed.lost
      (chosen-kept c.args.options c.args.rule.now.from c.args.target.now c.args.rule.now c.requires.built_source c.requires.built_type c.requires.rule)
      (sym (given-same _ c.in-Ok.changed.array c.in-Ok.ensures.column)) c.in-Ok.ensures.lost) c.of_days.ensures.column;
}

pub returns-in-Ok-cast_words : goal.returns-in-Ok-cast_words
returns-in-Ok-cast_words g c = record {
  column = subst (λ (r : Result Column PolarsError). GivesBy column_of c.of_ticks.result r)
      (cast-given c.args.options (rule_in c.args.rule.now).formula (kept_in c.args.rule.now) c.args.target.now (word_dtype (Signed w64)) c.args.words.now
      c.in-Ok-cast_words.changed.array c.in-Ok-cast_words.changed.lost
      (chosen-kept c.args.options c.args.rule.now.from c.args.target.now c.args.rule.now c.requires.built_source c.requires.built_type c.requires.rule)
      (sym (given-same _ c.in-Ok-cast_words.changed.array c.in-Ok-cast_words.ensures.column)) c.in-Ok-cast_words.ensures.lost) c.of_ticks.ensures.column;
}

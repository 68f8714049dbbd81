use Rattle.std.proofs.Common.{◌≡◌, true, Some, subst, sym}
use Rattle.std.specs.Int.{w64}
use Rattle.col_types.specs.declared.data_type.DataType.{DataType}
use Rattle.col_model.specs.Arithmetic.{Signed}
use Rattle.col_model.specs.Column.{is_built_type, physical_word}
use Rattle.col_cast.specs.Casts.{rule_in, ruled}
use Rattle.col_series.proofs.CastLemmas.{kept-words, moved-values}
use Rattle.col_series.proofs.TableLemmas.{chosen-from, plain-is}
use Rattle.col_series.proofs.casts.under_rule.Goals as goal

pub returns-then-keeps_words : goal.returns-then-keeps_words
returns-then-keeps_words c = record {
  column = kept-words c.shared.result c.args.column.now c.args.target.now c.args.options (rule_in c.args.rule.now).formula
      (plain-is (rule_in c.args.rule.now).formula (sym c.if-keeps_words.ensures.kept)) c.known.ensures.valid c.known.ensures.unmarked c.shared.ensures.column;
}

pub in_type-requires-clause-built_source : goal.in_type-requires-clause-built_source
in_type-requires-clause-built_source c =
    subst (λ (d : DataType). is_built_type d ≡ true) (chosen-from c.args.options c.args.column.now.column.dtype c.args.target.now c.args.rule.now c.requires.built_type c.requires.rule)
    c.known.ensures.valid.typed

pub in_type-requires-clause-rule : goal.in_type-requires-clause-rule
in_type-requires-clause-rule c =
    subst (λ (d : DataType). ruled d c.args.target.now c.args.options ≡ Some c.args.rule.now)
    (chosen-from c.args.options c.args.column.now.column.dtype c.args.target.now c.args.rule.now c.requires.built_type c.requires.rule) c.requires.rule

pub in_type-requires-in-Int64-clause-built_source :
    goal.in_type-requires-in-Int64-clause-built_source
in_type-requires-in-Int64-clause-built_source c =
    subst (λ (d : DataType). is_built_type d ≡ true) (chosen-from c.args.options c.args.column.now.column.dtype c.args.target.now c.args.rule.now c.requires.built_type c.requires.rule)
    c.known.ensures.valid.typed

pub in_type-requires-in-Int64-clause-rule : goal.in_type-requires-in-Int64-clause-rule
in_type-requires-in-Int64-clause-rule c =
    subst (λ (d : DataType). ruled d c.args.target.now c.args.options ≡ Some c.args.rule.now)
    (chosen-from c.args.options c.args.column.now.column.dtype c.args.target.now c.args.rule.now c.requires.built_type c.requires.rule) c.requires.rule

pub in_type-requires-in-Int64-clause-stored : goal.in_type-requires-in-Int64-clause-stored
in_type-requires-in-Int64-clause-stored c =
    subst (λ (d : DataType). physical_word d ≡ Some (Signed w64))
    (chosen-from c.args.options c.args.column.now.column.dtype c.args.target.now c.args.rule.now c.requires.built_type c.requires.rule) c.in-Int64.ensures.stored

pub in_type-requires-in-Int64-clause-values : goal.in_type-requires-in-Int64-clause-values
in_type-requires-in-Int64-clause-values c =
    moved-values c.args.column.now c.in-Int64.words.now c.args.rule.now.from c.in-Int64.ensures.column
    (chosen-from c.args.options c.args.column.now.column.dtype c.args.target.now c.args.rule.now c.requires.built_type c.requires.rule) c.known.ensures.valid.values

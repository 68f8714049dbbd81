-- The formulas of rows.
use Rattle.std.proofs.Common.{◌≡◌, false, Option, Some, refl, ap, unwrap_or}
use Rattle.std.specs.Int.{w64}
use Rattle.col_types.specs.declared.data_type.DataType.{DataType, Time}
use Rattle.col_types.specs.declared.cast_options.CastOptions.{CastOptions}
use Rattle.col_model.specs.Arithmetic.{WordType, Signed}
use Rattle.col_model.specs.CastTable.{in_word, narrowed}
use Rattle.col_model.specs.Formula.{X}
use Rattle.col_logical.specs.Logical.{is_time}
use Rattle.col_cast.specs.Casts.{Ruled, rule_in, word_of}
use Rattle.col_cast.specs.Rows.{rule_of}
use Rattle.col_cast.specs.declared.row.Row.TheVariants.{Reread}

-- a word that is read as one of the target's goes to the target's word
pub reread_formula : (rule : Ruled) (target : DataType) (options : CastOptions) (word : WordType)
    → rule_in rule ≡ rule_of rule.to rule.options Reread → target ≡ rule.to → options ≡ rule.options → word_of rule.to ≡ Some word
    → (rule_in rule).formula ≡ in_word target options word
reread_formula rule target options word e t o w = rw (e, t, o) (ap (λ (stored : Option WordType). in_word rule.to rule.options (unwrap_or stored (Signed w64))) w)

-- what isn't a time needs no day
pub in_word-other : (target : DataType) (options : CastOptions) (word : WordType) → is_time target ≡ false → in_word target options word ≡ narrowed options word X
in_word-other Time options word e = cc
in_word-other target options word e = refl

-- What contracts see of a rule of the cast table that was chosen for two types.
use Rattle.std.specs.Prelude.{◌≡◌, Bool, true, false, Option, Some, None, if◌then◌else◌}
use Rattle.std.specs.Option.{option_map}
use Rattle.std.specs.Int.{w8}
use Rattle.col_types.specs.declared.data_type.DataType.{DataType}
use Rattle.col_types.specs.declared.cast_options.CastOptions.{CastOptions}
use Rattle.col_types.specs.declared.cast_options.CastOptions.TheVariants.{NonStrict, Overflowing}
use Rattle.col_model.specs.Arithmetic.{WordType, Unsigned}
use Rattle.col_model.specs.Column.{physical_word}
use Rattle.col_model.specs.Formula.{Formula, X}
use Rattle.col_model.specs.CastTable.{CastRule, cast_rule, is_boolean, resolved_target}

-- the word in which a slot of the type comes and goes: that which stores the type, and for a truth
-- value one of 8 bits
abbrev pub word_of : DataType → Option WordType
word_of dtype = if is_boolean dtype then Some (Unsigned w8) else physical_word dtype

-- two types that the table has a rule for, and the options of the cast
pub record Ruled : Type 0 where
  pub from : DataType
  pub to : DataType
  pub options : CastOptions

-- the rule, or one that keeps each slot
abbrev pub rule_or_same : Option CastRule → CastRule
rule_or_same None = record { formula = X; monotone = true }
rule_or_same (Some rule) = rule

-- the rule of the table that was chosen
abbrev pub rule_in : Ruled → CastRule
rule_in ruled = rule_or_same (cast_rule ruled.from ruled.to ruled.options)

-- the formula that the same types have where a cast makes null of what would wrap
abbrev pub kept_in : Ruled → Formula
kept_in ruled = (rule_or_same (cast_rule ruled.from ruled.to NonStrict)).formula

-- the table has the rule that was chosen
abbrev pub IsListed : Ruled → Type 0
IsListed ruled = cast_rule ruled.from ruled.to ruled.options ≡ Some (rule_in ruled)

-- what is chosen for a type and a target that leaves nothing open, or none
abbrev pub ruled_to : DataType → DataType → CastOptions → Option Ruled
ruled_to from to options = option_map (λ rule. record {
  from = from;
  to = to;
  options = options;
}) (cast_rule from to options)

-- what is chosen for a type and a target, or none; what the target leaves open is taken from the
-- type
abbrev pub ruled : DataType → DataType → CastOptions → Option Ruled
ruled from target options = ruled_to from (resolved_target from target) options

-- whether a cast wraps what its target has no room for
abbrev pub is_wrapping : CastOptions → Bool
is_wrapping Overflowing = true
is_wrapping _ = false

-- whether a formula is its integer alone
abbrev pub is_plain : Formula → Bool
is_plain X = true
is_plain _ = false

-- The type that stores a type, the settled target, and the same type first.
use Rattle.std.proofs.Common.{◌≡◌, ◌≤◌, ◌^◌, ◌-◌, ℕ, ℤ, pos, negsuc, int_le, true, if◌then◌else◌, Option, Some, None, refl, ap, arith}
use Rattle.std.specs.Int.{w64}
use Rattle.std.specs.Option.{option_or}
use Rattle.std.proofs.lemmas.Bool.{false≢true, and_parts, leb-true, le-leb}
use Rattle.col_types.specs.TimeUnit.{nanos_per_day}
use Rattle.col_types.specs.declared.data_type.DataType.{DataType, Boolean, Time, Decimal}
use Rattle.col_types.specs.declared.cast_options.CastOptions.{CastOptions}
use Rattle.col_model.specs.Arithmetic.{Signed, word_values, is_within}
use Rattle.col_model.specs.Column.{day_values}
use Rattle.col_model.specs.Formula.{X}
use Rattle.col_model.specs.CastTable.{pair_rule, rising}
use Rattle.col_model.specs.TableLaws.{StoresValues, SameTypeFirst, SettlesOnce}

-- the word of times holds each time of a day
word_holds_day : (x : ℤ) → is_within day_values x ≡ true
    → is_within (word_values (Signed w64)) x ≡ true
word_holds_day (pos n) h =
    let parts = and_parts (int_le (pos 0) (pos n)) (int_le (pos n) day_values.high) h in
    let most : n ≤ nanos_per_day - 1 = leb-true n (nanos_per_day - 1) parts.1 in
    le-leb n (2 ^ 63 - 1) (omega arith)
word_holds_day (negsuc n) h = absurd (false≢true h)

pub stores_values : (dtype : DataType) → StoresValues dtype
stores_values Time = record { word = refl; room = λ x some h. word_holds_day x h }
stores_values Boolean = record { word = refl; room = λ x some h. absurd (false≢true some) }
stores_values dtype = record { word = refl; room = λ x some h. h }

pub same_type_first : (from target : DataType) (options : CastOptions)
    → SameTypeFirst from target options
same_type_first from target options =
    record {
      same = λ e. ap (λ same. if same then rising X else pair_rule from target options) e;
      other = λ e. ap (λ same. if same then rising X else pair_rule from target options) e;
    }

or_twice : (m n : Option ℕ) → option_or (option_or m n) n ≡ option_or m n
or_twice (Some m) n = refl
or_twice None None = refl
or_twice None (Some n) = refl

pub settles_once : (from target : DataType) → SettlesOnce from target
settles_once (Decimal p s) (Decimal q t) = rw (or_twice q p, or_twice t s) refl
settles_once from (Decimal q t) = refl
settles_once from target = refl

-- Laws above the definitions: what they mean in other words, and values that are known by hand.
use Rattle.std.specs.Prelude.{◌≡◌, ◌*ℤ◌, ◌+ℤ◌, ◌≤ℤ◌, ◌<ℤ◌, ℕ, ℤ, pos, neg_ℤ, negsuc, Option, Some}
use Rattle.std.specs.Prelude.{None}
use Rattle.std.specs.Option.{option_map}
use Rattle.col_types.specs.declared.time_unit.TimeUnit.TheVariants.{Nanoseconds, Microseconds}
use Rattle.col_types.specs.declared.time_unit.TimeUnit.TheVariants.{Milliseconds}
use Rattle.col_types.specs.declared.data_type.DataType.{DataType, Date, Datetime, Duration, Time}
use Rattle.col_types.specs.declared.data_type.DataType.{Int8, Int32, Int64, UInt8, UInt32, UInt64}
use Rattle.col_types.specs.declared.data_type.DataType.{Boolean}
use Rattle.col_types.specs.declared.cast_options.CastOptions.{CastOptions}
use Rattle.col_types.specs.declared.cast_options.CastOptions.TheVariants.{NonStrict, Overflowing}
use Rattle.col_types.specs.declared.operator.BinOp.{BinOp}
use Rattle.col_types.specs.declared.operator.BinOp.TheVariants.{Add, Sub, Mul, Div, Rem}
use Rattle.col_model.specs.CastTable.{CastRule, cast_rule}
use Rattle.col_model.specs.OperatorTable.{OperatorRule, listed_rule}
use Rattle.col_model.specs.Arithmetic.{floor_by, trunc_by}
use Rattle.col_model.specs.Formula.{Formula, X, value_of}
use Rattle.col_model.specs.UnitChange.{datetime_in_unit, duration_in_unit}

-- the quotient rounded down is the greatest integer whose multiple doesn't pass x
pub record RoundsDown (x : ℤ) (k : ℕ) : Type 0 where
  pub not_above : (floor_by x k *ℤ pos k) ≤ℤ x
  pub next_above : x <ℤ (floor_by x k *ℤ pos k +ℤ pos k)

-- the quotient rounded towards zero is the same on both sides of zero
abbrev pub RoundsTowardsZero : ℕ → ℕ → Type 0
RoundsTowardsZero n k = trunc_by (neg_ℤ (pos n)) k ≡ neg_ℤ (floor_by (pos n) k)

-- the value of a formula in one integer
abbrev pub value_at : Formula → ℤ → Option ℤ
value_at formula x = value_of formula x x

-- a moment in a coarser unit rounds down, and one in a finer unit is null past 64 bits
pub record KnownDatetimes : Type 0 where
  pub before_zero :
      value_at (datetime_in_unit Nanoseconds Milliseconds X) (negsuc 0) ≡ Some (negsuc 0)
  pub after_zero :
      value_at (datetime_in_unit Nanoseconds Milliseconds X) (pos 1999999) ≡ Some (pos 1)
  pub least :
      value_at (datetime_in_unit Nanoseconds Microseconds X) (negsuc 9223372036854775807)
      ≡ Some (negsuc 9223372036854775)
  pub greatest_that_fits :
      value_at (datetime_in_unit Milliseconds Nanoseconds X) (pos 9223372036854)
      ≡ Some (pos 9223372036854000000)
  pub past_it : value_at (datetime_in_unit Milliseconds Nanoseconds X) (pos 9223372036855) ≡ None
  pub greatest :
      value_at (datetime_in_unit Milliseconds Nanoseconds X) (pos 9223372036854775807) ≡ None

-- a length of time in a coarser unit rounds towards zero
pub record KnownDurations : Type 0 where
  pub below_zero : value_at (duration_in_unit Nanoseconds Milliseconds X) (negsuc 0) ≡ Some (pos 0)
  pub above_zero :
      value_at (duration_in_unit Nanoseconds Milliseconds X) (pos 1999999) ≡ Some (pos 1)
  pub least :
      value_at (duration_in_unit Nanoseconds Microseconds X) (negsuc 9223372036854775807)
      ≡ Some (negsuc 9223372036854774)
  pub same :
      value_at (duration_in_unit Milliseconds Milliseconds X) (negsuc 9223372036854775807)
      ≡ Some (negsuc 9223372036854775807)
  pub least_in_finer :
      value_at (duration_in_unit Milliseconds Microseconds X) (negsuc 9223372036854775807) ≡ None

-- what a cast makes of an integer: none where there is no row, else its value or null
abbrev pub cast_at : DataType → DataType → CastOptions → ℤ → Option (Option ℤ)
cast_at from to options x =
    option_map (λ (rule : CastRule). value_at rule.formula x) (cast_rule from to options)

-- days round down, times count from the day's beginning, and what has no room is null or wraps
pub record KnownCasts : Type 0 where
  pub day_before :
      cast_at (Datetime Milliseconds None) Date NonStrict (negsuc 0) ≡ Some (Some (negsuc 0))
  pub day_past_word :
      cast_at (Datetime Milliseconds None) Date NonStrict (pos 9223372036854775807) ≡ Some None
  pub day_wrapped :
      cast_at (Datetime Milliseconds None) Date Overflowing (pos 9223372036854775807)
      ≡ Some (Some (negsuc 622191232))
  pub time_before :
      cast_at (Datetime Microseconds None) Time NonStrict (negsuc 0)
      ≡ Some (Some (pos 86399999999000))
  pub last_midnight :
      cast_at Date (Datetime Microseconds None) NonStrict (pos 106751991)
      ≡ Some (Some (pos 9223372022400000000))
  pub past_it : cast_at Date (Datetime Microseconds None) NonStrict (pos 106751992) ≡ Some None
  pub time_as_length :
      cast_at Time (Duration Milliseconds) NonStrict (pos 1999999) ≡ Some (Some (pos 1))
  pub unlisted : cast_at Date (Duration Milliseconds) NonStrict (pos 0) ≡ None

-- what an operator makes of two integers: none where there is no row, else its value or null
abbrev pub joined_at : BinOp → DataType → DataType → ℤ → ℤ → Option (Option ℤ)
joined_at op left right x y =
    option_map (λ (rule : OperatorRule). value_of rule.formula x y) (listed_rule op left right)

-- a date with a length cuts it to milliseconds and rounds the sum down; the other order rounds the
-- length down
pub record KnownJoins : Type 0 where
  pub date_then_length :
      joined_at Add Date (Duration Nanoseconds) (pos 10) (negsuc 0) ≡ Some (Some (pos 10))
  pub length_then_date :
      joined_at Add (Duration Nanoseconds) Date (negsuc 0) (pos 10) ≡ Some (Some (pos 9))
  pub wrapped_then_null :
      joined_at Add Date (Duration Milliseconds) (pos 2147483647) (pos 9223372036854775807)
      ≡ Some None
  pub coarser_first :
      joined_at Add (Datetime Nanoseconds None) (Duration Milliseconds) (pos 1999999) (pos 3)
      ≡ Some (Some (pos 4))
  pub rest :
      joined_at Rem (Duration Milliseconds) (Duration Microseconds) (negsuc 6) (pos 3000)
      ≡ Some (Some (pos 2))
  pub rest_of_none :
      joined_at Rem (Duration Milliseconds) (Duration Milliseconds) (pos 7) (pos 0) ≡ Some None
  pub dates_apart : joined_at Sub Date Date (pos 1) (pos 2) ≡ Some (Some (negsuc 86399999))
  pub length_less_date : joined_at Sub (Duration Milliseconds) Date (pos 1) (pos 1) ≡ None

-- numbers meet in their supertype and wrap there; quotients round down, by 0 they are null, and a rest
-- has the divisor's sign; truth values have a sum alone, and a length of time meets integers in
-- products and as a dividend
pub record KnownNumbers : Type 0 where
  pub sum_wraps :
      joined_at Add Int64 Int64 (pos 9223372036854775807) (pos 1)
      ≡ Some (Some (negsuc 9223372036854775807))
  pub in_the_wider : joined_at Add Int8 UInt8 (negsuc 0) (pos 255) ≡ Some (Some (pos 254))
  pub truth_counts : joined_at Sub Boolean Int8 (pos 1) (pos 2) ≡ Some (Some (negsuc 0))
  pub truths : joined_at Add Boolean Boolean (pos 1) (pos 1) ≡ Some (Some (pos 2))
  pub no_difference : joined_at Sub Boolean Boolean (pos 1) (pos 1) ≡ None
  pub no_supertype : joined_at Add UInt64 Int64 (pos 1) (pos 1) ≡ None
  pub down : joined_at Div Int64 Int64 (negsuc 6) (pos 2) ≡ Some (Some (negsuc 3))
  pub least_turned :
      joined_at Div Int64 Int64 (negsuc 9223372036854775807) (negsuc 0)
      ≡ Some (Some (negsuc 9223372036854775807))
  pub by_zero : joined_at Div Int64 Int64 (pos 7) (pos 0) ≡ Some None
  pub rest : joined_at Rem Int64 Int64 (pos 7) (negsuc 1) ≡ Some (Some (negsuc 0))
  pub rest_of_none : joined_at Rem UInt32 UInt32 (pos 7) (pos 0) ≡ Some None
  pub length_times :
      joined_at Mul (Duration Milliseconds) Int64 (pos 3) (negsuc 1) ≡ Some (Some (negsuc 5))
  pub times_length :
      joined_at Mul Int32 (Duration Milliseconds) (negsuc 1) (pos 3) ≡ Some (Some (negsuc 5))
  pub past_ticks :
      joined_at Mul (Duration Milliseconds) UInt64 (pos 0) (pos 9223372036854775808)
      ≡ Some None
  pub part : joined_at Div (Duration Milliseconds) Int64 (negsuc 6) (pos 2) ≡ Some (Some (negsuc 3))
  pub no_part_of_an_integer : joined_at Div Int64 (Duration Milliseconds) (pos 6) (pos 2) ≡ None
  pub no_sum : joined_at Add (Duration Milliseconds) Int64 (pos 1) (pos 1) ≡ None

-- integers go to the words of other types, null or wrapped where these have no room, and a truth value
-- is what isn't 0
pub record KnownWordCasts : Type 0 where
  pub narrowed : cast_at Int64 Int8 NonStrict (pos 128) ≡ Some None
  pub wrapped : cast_at Int64 Int8 Overflowing (pos 128) ≡ Some (Some (negsuc 127))
  pub unsigned : cast_at UInt64 Int64 NonStrict (pos 9223372036854775808) ≡ Some None
  pub day : cast_at Int64 Date NonStrict (pos 2147483648) ≡ Some None
  pub day_wrapped :
      cast_at Int64 Date Overflowing (pos 2147483648) ≡ Some (Some (negsuc 2147483647))
  pub time : cast_at Int64 Time NonStrict (negsuc 0) ≡ Some None
  pub time_wrapped : cast_at Int64 Time Overflowing (pos 86400000000000) ≡ Some None
  pub of_a_time : cast_at Time Int32 Overflowing (pos 4294967296) ≡ Some (Some (pos 0))
  pub truth : cast_at Int64 Boolean NonStrict (negsuc 1) ≡ Some (Some (pos 1))
  pub untruth : cast_at Int64 Boolean NonStrict (pos 0) ≡ Some (Some (pos 0))
  pub of_a_truth : cast_at Boolean Date NonStrict (pos 1) ≡ Some (Some (pos 1))
  pub truth_of_a_day : cast_at Date Boolean NonStrict (pos 1) ≡ None

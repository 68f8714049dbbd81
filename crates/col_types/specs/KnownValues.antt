-- Values of the definitions, worked out by hand, so that a wrong definition does not check.
use Rattle.std.specs.Prelude.{◌≡◌, Bool, true, false, ℕ, List, [], ◌∷◌, map, codes}
use Rattle.std.specs.Prelude.{Option, Some, None, Result, Ok, Err}
use Rattle.col_types.specs.declared.time_unit.TimeUnit.{TimeUnit}
use Rattle.col_types.specs.declared.time_unit.TimeUnit.TheVariants.{Nanoseconds, Microseconds}
use Rattle.col_types.specs.declared.time_unit.TimeUnit.TheVariants.{Milliseconds}
use Rattle.col_types.specs.declared.data_type.DataType.{DataType, Int8, Int16, Int32, Int64}
use Rattle.col_types.specs.declared.data_type.DataType.{Int128, UInt8, UInt16, UInt32, UInt64}
use Rattle.col_types.specs.declared.data_type.DataType.{Boolean, String, Binary, Date, Datetime}
use Rattle.col_types.specs.declared.data_type.DataType.{Duration, Time, Decimal}
use Rattle.col_types.specs.declared.error.PolarsError.{PolarsError}
use Rattle.col_types.specs.declared.error.PolarsError.TheVariants.{Zone}
use Rattle.col_types.specs.TimeUnit.{ticks_per_day, coarser_unit}
use Rattle.col_types.specs.DataType.{is_integer, is_temporal, is_column_type}
use Rattle.col_types.specs.DataType.{is_expression_type, is_expression_target}
use Rattle.col_types.specs.DataType.{same_type, physical_leaf}
use Rattle.col_types.specs.Supertype.{supertype_of}
use Rattle.col_types.specs.Zones.{opt_zone, parsed_offset, with_name}

-- A function gives the second of each pair at the first.
abbrev pub GivesEach : {X Y : Type 0} → (X → Y) → List (X × Y) → Type 0
GivesEach f rows = map (λ row. f row.0) rows ≡ map (λ row. row.1) rows

-- ---- units

-- The ticks of a day, and which of two units is coarser.
pub record KnownUnits : Type 0 where
  pub nanoseconds : ticks_per_day Nanoseconds ≡ 86400000000000
  pub microseconds : ticks_per_day Microseconds ≡ 86400000000
  pub milliseconds : ticks_per_day Milliseconds ≡ 86400000
  pub second_coarser : coarser_unit Nanoseconds Milliseconds ≡ Milliseconds
  pub first_coarser : coarser_unit Milliseconds Microseconds ≡ Milliseconds

-- ---- zones

-- A text and what it names.
abbrev ZoneRow : Type 0
ZoneRow = Option (List ℕ) × Result (Option (List ℕ)) PolarsError

-- A text that names a zone.
abbrev naming : List ℕ → List ℕ → ZoneRow
naming text zone = (Some text, Ok (Some zone))

-- A text that is refused.
abbrev refused : List ℕ → ZoneRow
refused text = (Some text, Err Zone)

-- Texts where no names were handed in.
abbrev zone_texts : List ZoneRow
zone_texts =
    (None, Ok None) ∷
    (Some [], Ok None) ∷
    naming (codes "*") (codes "*") ∷
    naming (codes "utc") (codes "UTC") ∷
    naming (codes "UTC") (codes "UTC") ∷
    refused (codes "Utc") ∷
    naming (codes "+00:00") (codes "UTC") ∷
    naming (codes "00:00") (codes "UTC") ∷
    naming (codes "-00:00") (codes "Etc/GMT+0") ∷
    naming (codes "0000") (codes "Etc/GMT-0") ∷
    naming (codes "+01:00") (codes "Etc/GMT-1") ∷
    naming (codes "01:00") (codes "Etc/GMT-1") ∷
    naming (codes "+0100") (codes "Etc/GMT-1") ∷
    naming (codes "-1100") (codes "Etc/GMT+11") ∷
    naming (codes "+13:00") (codes "Etc/GMT-13") ∷
    naming (codes "+14:00") (codes "Etc/GMT-14") ∷
    naming (codes "-12:00") (codes "Etc/GMT+12") ∷
    refused (codes "-13:00") ∷
    refused (codes "+15:00") ∷
    refused (codes "+01:30") ∷
    refused (codes "+1:00") ∷
    refused (codes "+01") ∷
    naming (codes "Etc/GMT-14") (codes "Etc/GMT-14") ∷
    naming (codes "Etc/GMT+12") (codes "Etc/GMT+12") ∷
    refused (codes "Etc/GMT-15") ∷
    refused (codes "Etc/GMT-01") ∷
    refused (codes "Europe/Berlin") ∷ []

-- The names that are handed in for the texts below.
abbrev some_names : List (List ℕ)
some_names = codes "utc" ∷ codes "+01:00" ∷ codes "Etc/GMT+13" ∷ []

-- Texts where these names were handed in: a name names itself but for the spellings of `UTC`.
abbrev known_names : List ZoneRow
known_names =
    naming (codes "utc") (codes "UTC") ∷
    naming (codes "+01:00") (codes "+01:00") ∷
    naming (codes "01:00") (codes "Etc/GMT-1") ∷
    naming (codes "-13:00") (codes "Etc/GMT+13") ∷
    refused (codes "-14:00") ∷ []

-- Fixed offsets, for which no name is handed in.
abbrev offsets : List (List ℕ × Result (List ℕ) PolarsError)
offsets =
    (codes "+13:00", Ok (codes "Etc/GMT-13")) ∷
    (codes "-0300", Ok (codes "Etc/GMT+3")) ∷
    (codes "-13:00", Err Zone) ∷
    (codes "UTC", Err Zone) ∷
    ([], Err Zone) ∷ []

-- What texts name, and that names stand in the order of their bytes, each once.
pub record KnownZones : Type 0 where
  pub alone : GivesEach (opt_zone []) zone_texts
  pub with_names : GivesEach (opt_zone some_names) known_names
  pub of_offsets : GivesEach parsed_offset offsets
  pub in_order :
      with_name (with_name (codes "b" ∷ []) (codes "a")) (codes "b") ≡ codes "a" ∷ codes "b" ∷ []

-- ---- types

-- Whether a type is an integer, temporal, a column's, an expression's, and a target in one.
abbrev classes_of : DataType → Bool × Bool × Bool × Bool × Bool
classes_of dtype = (
  is_integer dtype,
  is_temporal dtype,
  is_column_type dtype,
  is_expression_type dtype,
  is_expression_target dtype,
)

-- A moment with the wildcard as its zone.
abbrev any_moment : DataType
any_moment = Datetime Nanoseconds (Some (codes "*"))

-- The classes of some types.
abbrev classes : List (DataType × (Bool × Bool × Bool × Bool × Bool))
classes =
    (Int128, (true, false, true, true, true)) ∷
    (Boolean, (false, false, true, true, true)) ∷
    (String, (false, false, true, false, false)) ∷
    (Time, (false, true, true, true, true)) ∷
    (Datetime Nanoseconds None, (false, true, true, true, true)) ∷
    (any_moment, (false, true, false, false, false)) ∷
    (Decimal None (Some 38), (false, false, true, true, true)) ∷
    (Decimal (Some 39) (Some 2), (false, false, false, false, false)) ∷
    (Decimal (Some 9) None, (false, false, false, false, true)) ∷ []

-- The types that store some types.
abbrev physical_types : List (DataType × DataType)
physical_types =
    (Date, Int32) ∷
    (Time, Int64) ∷
    (Duration Microseconds, Int64) ∷
    (Datetime Milliseconds None, Int64) ∷
    (Decimal (Some 5) (Some 2), Int128) ∷
    (Boolean, Boolean) ∷
    (Binary, Binary) ∷
    (UInt16, UInt16) ∷ []

-- Which types are what, what stores them, and which of them differ.
pub record KnownTypes : Type 0 where
  pub in_classes : GivesEach classes_of classes
  pub stored : GivesEach physical_leaf physical_types
  pub units_differ : same_type (Datetime Nanoseconds None) (Datetime Microseconds None) ≡ false
  pub scales_differ : same_type (Decimal None (Some 2)) (Decimal None None) ≡ false

-- ---- supertypes

-- Two types, and their supertype, where there is one.
abbrev SupertypeRow : Type 0
SupertypeRow = (DataType × DataType) × Option DataType

-- Two types that have a supertype.
abbrev under : DataType → DataType → DataType → SupertypeRow
under left right answer = ((left, right), Some answer)

-- Two types that have none.
abbrev apart : DataType → DataType → SupertypeRow
apart left right = ((left, right), None)

-- A moment in `UTC`.
abbrev utc_moment : TimeUnit → DataType
utc_moment unit = Datetime unit (Some (codes "UTC"))

-- Integers and booleans.
abbrev integer_pairs : List SupertypeRow
integer_pairs =
    under Int8 Int8 Int8 ∷
    under Int8 Int32 Int32 ∷
    under UInt8 UInt64 UInt64 ∷
    under Int8 UInt8 Int16 ∷
    under UInt16 Int64 Int64 ∷
    under UInt32 Int8 Int64 ∷
    apart UInt64 Int64 ∷
    apart Int8 UInt64 ∷
    under UInt64 Int128 Int128 ∷
    under Int128 Int8 Int128 ∷
    under Boolean UInt64 UInt64 ∷
    under Int16 Boolean Int16 ∷
    under Int128 Boolean Int128 ∷
    apart Int8 Date ∷
    apart Boolean Date ∷
    apart Int128 String ∷ []

-- Other types.
abbrev other_pairs : List SupertypeRow
other_pairs =
    under Date (utc_moment Microseconds) (utc_moment Microseconds) ∷
    under (utc_moment Nanoseconds) Date (utc_moment Nanoseconds) ∷
    under (utc_moment Nanoseconds) (utc_moment Milliseconds) (utc_moment Milliseconds) ∷
    apart (utc_moment Nanoseconds) (Datetime Nanoseconds None) ∷
    under (Duration Milliseconds) (Duration Microseconds) (Duration Milliseconds) ∷
    under (Decimal (Some 5) (Some 2)) (Decimal (Some 9) (Some 1)) (Decimal (Some 9) (Some 2)) ∷
    under (Decimal (Some 5) (Some 2)) (Decimal None (Some 3)) (Decimal None (Some 3)) ∷
    apart Date (Duration Milliseconds) ∷
    apart Date Time ∷
    apart (Decimal None (Some 2)) Int8 ∷
    apart String Binary ∷ []

-- Supertypes.
pub record KnownSupertypes : Type 0 where
  pub of_integers : GivesEach (λ pair. supertype_of pair.0 pair.1) integer_pairs
  pub of_others : GivesEach (λ pair. supertype_of pair.0 pair.1) other_pairs

-- The texts of types.
use Rattle.std.specs.Prelude.{ℕ, List, [], ◌∷◌, ◌++◌, map, Option, Some, None, option_and_then}
use Rattle.std.specs.Prelude.{option_map, if◌then◌else◌, codes, find}
use Rattle.std.specs.Char.{is_ascii_graphic}
use Rattle.std.specs.List.{list_all}
use Rattle.std.specs.Option.{option_or}
use Rattle.std.specs.Result.{result_ok}
use Rattle.std.specs.Str.{bytes_eq}
use Rattle.col_types.specs.TimeUnit.{all_units, unit_name}
use Rattle.col_types.specs.Zones.{opt_zone}
use Rattle.col_types.specs.DataType.{is_expression_type}
use Rattle.col_types.specs.declared.time_unit.TimeUnit.{TimeUnit}
use Rattle.col_types.specs.declared.data_type.DataType.{DataType, String, Binary, Date, Datetime}
use Rattle.col_types.specs.declared.data_type.DataType.{Duration, Time, Int64}
use Rattle.col_text.specs.Parts.{after_prefix, before_suffix, first_read}

-- a zone behind its unit
abbrev pub zone_text : Option (List ℕ) → List ℕ
zone_text None = []
zone_text (Some name) = codes "," ++ name

-- the text of a type that a script can name
abbrev pub dtype_text : DataType → List ℕ
dtype_text Int64 = codes "i64"
dtype_text Date = codes "date"
dtype_text Time = codes "time"
dtype_text (Datetime unit zone_name) =
    codes "datetime[" ++ (unit_name unit ++ (zone_text zone_name ++ codes "]"))
dtype_text (Duration unit) = codes "duration[" ++ (unit_name unit ++ codes "]")
dtype_text String = codes "string"
dtype_text Binary = codes "binary"
dtype_text _ = []

-- the first of these types whose text this is
abbrev pub dtype_among : List DataType → List ℕ → Option DataType
dtype_among dtypes text = find (λ dtype. bytes_eq text (dtype_text dtype)) dtypes

-- the types of columns without a zone
abbrev pub plain_dtypes : List DataType
plain_dtypes =
    Int64 ∷ (Date ∷ (Time ∷ (map (λ unit. Datetime unit None) all_units
    ++ map Duration all_units)))

-- the types that a cast can name beside those of columns
abbrev pub target_dtypes : List DataType
target_dtypes = String ∷ (Binary ∷ [])

-- the zone that a text in a type names, with the names handed in: an empty text names none
abbrev pub zone_named : List (List ℕ) → List ℕ → Option (Option (List ℕ))
zone_named names text =
    if list_all is_ascii_graphic text then result_ok (opt_zone names (Some text)) else None

-- the text of the zone in `datetime[UNIT,ZONE]`
abbrev pub zone_part : TimeUnit → List ℕ → Option (List ℕ)
zone_part unit text =
    option_and_then (before_suffix (codes "]"))
    (after_prefix (codes "datetime[" ++ (unit_name unit ++ codes ",")) text)

-- the type that `datetime[UNIT,ZONE]` names
abbrev pub zoned_dtype : List (List ℕ) → List ℕ → TimeUnit → Option DataType
zoned_dtype names text unit =
    option_map (Datetime unit) (option_and_then (zone_named names) (zone_part unit text))

-- the type that a text names
abbrev pub dtype_named : List (List ℕ) → List ℕ → Option DataType
dtype_named names text =
    option_or (dtype_among plain_dtypes text) (first_read (zoned_dtype names text) all_units)

-- the type, where an expression can have columns of it
abbrev pub expression_type : DataType → Option DataType
expression_type dtype = if is_expression_type dtype then Some dtype else None

-- the type of a column that a text names
abbrev pub column_dtype : List (List ℕ) → List ℕ → Option DataType
column_dtype names text = option_and_then expression_type (dtype_named names text)

-- the target of a cast that a text names
abbrev pub target_named : List (List ℕ) → List ℕ → Option DataType
target_named names text = option_or (dtype_named names text) (dtype_among target_dtypes text)

-- The types of columns: their variant, their form without places in memory, their equality.
use Rattle.std.specs.Prelude.{ℕ, Bool, true, false, not, ◌&&◌, ◌||◌, nat_eq, nat_le, List, codes}
use Rattle.std.specs.Prelude.{Option, Some, None, Box}
use Rattle.std.specs.declared.alloc.Global.{Global}
use Rattle.std.specs.Str.{bytes_eq}
use denote.RawPtr.{null_ptr}
use Rattle.col_types.specs.declared.time_unit.TimeUnit.{TimeUnit}
use Rattle.col_types.specs.TimeUnit.{nanos_per_tick}
use Rattle.col_types.specs.declared.data_type.DataType.{DataType, Int8, Int16, Int32, Int64, Int128}
use Rattle.col_types.specs.declared.data_type.DataType.{UInt8, UInt16, UInt32, UInt64, Boolean}
use Rattle.col_types.specs.declared.data_type.DataType.{String, Binary, Date, Datetime, Duration}
use Rattle.col_types.specs.declared.data_type.DataType.{Time, Decimal, List', Array'}
use Rattle.col_types.specs.declared.data_type.Kind.{Kind}
use Rattle.col_types.specs.declared.data_type.Kind.TheVariants as kinds

-- The variant of a type, with the unit where it has one.
abbrev pub kind_of : DataType → Kind
kind_of Int8 = kinds.Int8
kind_of Int16 = kinds.Int16
kind_of Int32 = kinds.Int32
kind_of Int64 = kinds.Int64
kind_of Int128 = kinds.Int128
kind_of UInt8 = kinds.UInt8
kind_of UInt16 = kinds.UInt16
kind_of UInt32 = kinds.UInt32
kind_of UInt64 = kinds.UInt64
kind_of Boolean = kinds.Boolean
kind_of String = kinds.String
kind_of Binary = kinds.Binary
kind_of Date = kinds.Date
kind_of (Datetime unit _) = kinds.Datetime unit
kind_of (Duration unit) = kinds.Duration unit
kind_of Time = kinds.Time
kind_of (Decimal precision scale) = kinds.Decimal
kind_of (List' place leaf) = kinds.List
kind_of (Array' place leaf width) = kinds.Array

-- Whether the type is one of the nine integers.
abbrev pub is_integer : DataType → Bool
is_integer Int8 = true
is_integer Int16 = true
is_integer Int32 = true
is_integer Int64 = true
is_integer Int128 = true
is_integer UInt8 = true
is_integer UInt16 = true
is_integer UInt32 = true
is_integer UInt64 = true
is_integer _ = false

-- Whether the type has a civil meaning.
abbrev pub is_temporal : DataType → Bool
is_temporal Date = true
is_temporal (Datetime unit _) = true
is_temporal (Duration unit) = true
is_temporal Time = true
is_temporal _ = false

-- Whether columns of the type exist so far. This is the one place that says so: each further type
-- adds a line.
abbrev pub is_built : DataType → Bool
is_built Date = true
is_built (Datetime unit name) = true
is_built (Duration unit) = true
is_built Time = true
is_built Int64 = true
is_built _ = false

-- Whether each valid slot is an integer: integers, booleans, temporal types and decimals.
abbrev pub holds_integers : DataType → Bool
holds_integers Boolean = true
holds_integers (Decimal precision scale) = true
holds_integers dtype = is_integer dtype || is_temporal dtype

-- Whether a slot holds slots.
abbrev pub is_nested : DataType → Bool
is_nested (List' place leaf) = true
is_nested (Array' place leaf width) = true
is_nested _ = false

-- The innermost type.
abbrev pub leaf_of : DataType → DataType
leaf_of (List' place leaf) = leaf_of leaf
leaf_of (Array' place leaf width) = leaf_of leaf
leaf_of dtype = dtype

-- The same nesting over another leaf.
abbrev pub with_leaf : DataType → DataType → DataType
with_leaf (List' place inner) leaf = List' place (with_leaf inner leaf)
with_leaf (Array' place inner width) leaf = Array' place (with_leaf inner leaf) width
with_leaf _ leaf = leaf

-- The integer that stores a type that isn't nested, and the type itself where it needs none.
abbrev pub physical_leaf : DataType → DataType
physical_leaf Date = Int32
physical_leaf (Datetime unit name) = Int64
physical_leaf (Duration unit) = Int64
physical_leaf Time = Int64
physical_leaf (Decimal precision scale) = Int128
physical_leaf dtype = dtype

-- The type that stores a type, under the same nesting.
abbrev pub physical_of : DataType → DataType
physical_of dtype = with_leaf dtype (physical_leaf (leaf_of dtype))

-- Whether the zone is the wildcard, which stands for any zone.
abbrev pub is_wildcard : Option (List ℕ) → Bool
is_wildcard None = false
is_wildcard (Some name) = bytes_eq name (codes "*")

-- The greatest number of digits of a decimal, and of those behind its point.
abbrev pub max_digits : ℕ
max_digits = 38

-- Whether a precision or a scale is missing, or is within that number.
abbrev pub is_allowed_digits : Option ℕ → Bool
is_allowed_digits None = true
is_allowed_digits (Some digits) = nat_le digits max_digits

-- Whether a type that isn't nested is refused as a target: a wildcard, or too many digits.
abbrev pub is_bad_leaf : DataType → Bool
is_bad_leaf (Datetime unit name) = is_wildcard name
is_bad_leaf (Decimal precision scale) =
    not (is_allowed_digits precision && is_allowed_digits scale)
is_bad_leaf _ = false

-- Whether a type is refused as the target of a cast: a bad leaf, or more than one level of nesting.
abbrev pub is_bad_target : DataType → Bool
is_bad_target (List' place leaf) = is_nested leaf || is_bad_leaf leaf
is_bad_target (Array' place leaf width) = is_nested leaf || is_bad_leaf leaf
is_bad_target dtype = is_bad_leaf dtype

-- Whether the type says how many digits stand behind the point, where it is a decimal.
abbrev pub has_scale : DataType → Bool
has_scale (Decimal precision None) = false
has_scale _ = true

-- Whether a column can be of the type.
abbrev pub is_column_type : DataType → Bool
is_column_type dtype = not (is_bad_target dtype) && has_scale (leaf_of dtype)

-- Whether an expression's column can be of the type.
abbrev pub is_expression_type : DataType → Bool
is_expression_type dtype = is_column_type dtype && holds_integers dtype

-- Whether a cast in an expression can have the type as its target.
abbrev pub is_expression_target : DataType → Bool
is_expression_target dtype = holds_integers dtype && not (is_bad_target dtype)

-- A box without its place in memory.
abbrev pub unplaced : Box (Unit {0}) Global → Box (Unit {0}) Global
unplaced place = record place { ptr = null_ptr }

-- A type without the places of its boxes: two equal types have one shape, wherever they lie.
abbrev pub shape_of : DataType → DataType
shape_of (List' place leaf) = List' (unplaced place) (shape_of leaf)
shape_of (Array' place leaf width) = Array' (unplaced place) (shape_of leaf) width
shape_of Int8 = Int8
shape_of Int16 = Int16
shape_of Int32 = Int32
shape_of Int64 = Int64
shape_of Int128 = Int128
shape_of UInt8 = UInt8
shape_of UInt16 = UInt16
shape_of UInt32 = UInt32
shape_of UInt64 = UInt64
shape_of Boolean = Boolean
shape_of String = String
shape_of Binary = Binary
shape_of Date = Date
shape_of (Datetime unit zone) = Datetime unit zone
shape_of (Duration unit) = Duration unit
shape_of Time = Time
shape_of (Decimal precision scale) = Decimal precision scale

-- Whether two units are equal.
abbrev pub same_unit : TimeUnit → TimeUnit → Bool
same_unit u v = nat_eq (nanos_per_tick u) (nanos_per_tick v)

-- Whether two zones are equal, or both are none.
abbrev pub same_zone : Option (List ℕ) → Option (List ℕ) → Bool
same_zone None None = true
same_zone (Some y) (Some z) = bytes_eq y z
same_zone _ _ = false

-- Whether two numbers are equal, or both are none.
abbrev pub same_number : Option ℕ → Option ℕ → Bool
same_number None None = true
same_number (Some m) (Some n) = nat_eq m n
same_number _ _ = false

-- Whether two types are equal, wherever their boxes lie.
abbrev pub same_type : DataType → DataType → Bool
same_type Int8 Int8 = true
same_type Int16 Int16 = true
same_type Int32 Int32 = true
same_type Int64 Int64 = true
same_type Int128 Int128 = true
same_type UInt8 UInt8 = true
same_type UInt16 UInt16 = true
same_type UInt32 UInt32 = true
same_type UInt64 UInt64 = true
same_type Boolean Boolean = true
same_type String String = true
same_type Binary Binary = true
same_type Date Date = true
same_type Time Time = true
same_type (Datetime u y) (Datetime v z) = same_unit u v && same_zone y z
same_type (Duration u) (Duration v) = same_unit u v
same_type (Decimal p s) (Decimal q t) = same_number p q && same_number s t
same_type (List' p a) (List' q b) = same_type a b
same_type (Array' p a m) (Array' q b n) = nat_eq m n && same_type a b
same_type _ _ = false

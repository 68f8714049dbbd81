-- The least type that has the values of two types.
use Rattle.std.specs.Prelude.{ℕ, ◌==◌, max, if◌then◌else◌, Option, Some, None, option_map, Result}
use Rattle.std.specs.Option.{ok_or}
use Rattle.col_types.specs.declared.error.PolarsError.{PolarsError}
use Rattle.col_types.specs.declared.error.PolarsError.TheVariants.{Types}
use Rattle.col_types.specs.declared.operator.OpName.TheVariants.{Supertype}
use Rattle.col_types.specs.declared.data_type.DataType.{DataType, Int8, Int16, Int32, Int64, Int128}
use Rattle.col_types.specs.declared.data_type.DataType.{UInt8, UInt16, UInt32, UInt64, Boolean}
use Rattle.col_types.specs.declared.data_type.DataType.{Date, Datetime, Duration, Decimal}
use Rattle.col_types.specs.TimeUnit.{coarser_unit}
use Rattle.col_types.specs.DataType.{kind_of, is_integer, shape_of, same_zone, same_type}

-- The larger number where both are set, else none.
abbrev pub larger_of_both : Option ℕ → Option ℕ → Option ℕ
larger_of_both (Some m) (Some n) = Some (max m n)
larger_of_both _ _ = None

-- The bits of a signed integer that holds the values of an integer up to 64 bits.
abbrev pub signed_bits : DataType → Option ℕ
signed_bits Int8 = Some 8
signed_bits Int16 = Some 16
signed_bits Int32 = Some 32
signed_bits Int64 = Some 64
signed_bits UInt8 = Some 16
signed_bits UInt16 = Some 32
signed_bits UInt32 = Some 64
signed_bits UInt64 = Some 128
signed_bits _ = None

-- The bits of an unsigned integer.
abbrev pub unsigned_bits : DataType → Option ℕ
unsigned_bits UInt8 = Some 8
unsigned_bits UInt16 = Some 16
unsigned_bits UInt32 = Some 32
unsigned_bits UInt64 = Some 64
unsigned_bits _ = None

-- The signed integer of so many bits, up to 64.
abbrev pub signed_type : ℕ → Option DataType
signed_type bits =
    if bits == 8 then Some Int8
    else (if bits == 16 then Some Int16
    else (if bits == 32 then Some Int32
    else (if bits == 64 then Some Int64 else None)))

-- The unsigned integer of so many bits, up to 64.
abbrev pub unsigned_type : ℕ → Option DataType
unsigned_type bits =
    if bits == 8 then Some UInt8
    else (if bits == 16 then Some UInt16
    else (if bits == 32 then Some UInt32
    else (if bits == 64 then Some UInt64 else None)))

-- The unsigned type, where both are unsigned, and else the signed one.
abbrev pub type_of_bits : Option ℕ → Option ℕ → Option DataType
type_of_bits (Some unsigned) signed = unsigned_type unsigned
type_of_bits None (Some signed) = signed_type signed
type_of_bits None None = None

-- The smallest integer type up to 64 bits that holds the values of both.
abbrev pub small_supertype : DataType → DataType → Option DataType
small_supertype left right = type_of_bits
    (larger_of_both (unsigned_bits left) (unsigned_bits right))
    (larger_of_both (signed_bits left) (signed_bits right))

-- The answer, where the other type is an integer.
abbrev pub with_integer : DataType → DataType → Option DataType
with_integer other answer = if is_integer other then Some answer else None

-- The supertype of an integer and an integer or a boolean.
abbrev pub integer_supertype : DataType → DataType → Option DataType
integer_supertype left right =
    if same_type left Boolean then with_integer right right
    else (if same_type right Boolean then with_integer left left
    else (if same_type left Int128 then with_integer right Int128
    else (if same_type right Int128 then with_integer left Int128
    else small_supertype left right)))

-- The supertype of two types that differ.
abbrev pub mixed_supertype : DataType → DataType → Option DataType
mixed_supertype Date (Datetime unit name) = Some (Datetime unit name)
mixed_supertype (Datetime unit name) Date = Some (Datetime unit name)
mixed_supertype (Datetime u y) (Datetime v z) =
    if same_zone y z then Some (Datetime (coarser_unit u v) y) else None
mixed_supertype (Duration u) (Duration v) = Some (Duration (coarser_unit u v))
mixed_supertype (Decimal p s) (Decimal q t) =
    Some (Decimal (larger_of_both p q) (larger_of_both s t))
mixed_supertype left right = integer_supertype left right

-- The supertype: equal types give themselves.
abbrev pub supertype_of : DataType → DataType → Option DataType
supertype_of left right = if same_type left right then Some left else mixed_supertype left right

-- The supertype without the places of its boxes, where there is one, and else the refusal, which
-- tells both types.
abbrev pub supertype_answer : DataType → DataType → Result DataType PolarsError
supertype_answer left right =
    ok_or (option_map shape_of (supertype_of left right))
    (Types Supertype (kind_of left) (kind_of right))

-- Columns of words: their type, the slots that fit it, and what reductions make of them.
use Rattle.std.specs.Prelude.{ℤ, pos, ◌+ℤ◌, ◌*ℤ◌, Bool, true, List, fold, Option, Some, None}
use Rattle.std.specs.Prelude.{int_lt, if◌then◌else◌}
use Rattle.std.specs.List.{filter_map}
use Rattle.std.specs.Int.{w8, w16, w32, w64, w128, int_bit_and, int_bit_or, int_bit_xor}
use Rattle.col_types.specs.declared.data_type.DataType.{DataType, Int8, Int16, Int32, Int64}
use Rattle.col_types.specs.declared.data_type.DataType.{Int128, UInt8, UInt16, UInt32, UInt64}
use Rattle.col_model.specs.Arithmetic.{WordType, Signed, Unsigned, word_values, wrapped_value}
use Rattle.col_model.specs.Column.{is_value_in}
use Rattle.col_model.specs.Value.{Value, Flat, Whole}

-- the integer type of a word; the last line stands for no word
abbrev pub word_dtype : WordType → DataType
word_dtype (Signed w8) = Int8
word_dtype (Signed w16) = Int16
word_dtype (Signed w32) = Int32
word_dtype (Signed w64) = Int64
word_dtype (Signed w128) = Int128
word_dtype (Unsigned w8) = UInt8
word_dtype (Unsigned w16) = UInt16
word_dtype (Unsigned w32) = UInt32
word_dtype (Unsigned w64) = UInt64
word_dtype (Unsigned w128) = Int128

-- whether a slot is null or has an integer of the word
abbrev pub is_word_slot : WordType → Option Value → Bool
is_word_slot word None = true
is_word_slot word (Some value) = is_value_in (Some (word_values word)) value

-- ---- reductions

-- the integer of a slot
abbrev pub integer_in : Option Value → Option ℤ
integer_in (Some (Flat (Whole x))) = Some x
integer_in _ = None

-- the integers of the valid slots, in order
abbrev pub integers_of : List (Option Value) → List ℤ
integers_of slots = filter_map integer_in slots

-- their sum, wrapped at each addition
abbrev pub sum_of : WordType → List (Option Value) → ℤ
sum_of word slots =
    fold (λ x y. wrapped_value word (x +ℤ y)) (wrapped_value word (pos 0)) (integers_of slots)

-- their product, wrapped at each multiplication
abbrev pub product_of : WordType → List (Option Value) → ℤ
product_of word slots =
    fold (λ x y. wrapped_value word (x *ℤ y)) (wrapped_value word (pos 1)) (integers_of slots)

-- the lesser and the greater of two integers
abbrev pub lesser : ℤ → ℤ → ℤ
lesser x y = if int_lt y x then y else x

abbrev pub greater : ℤ → ℤ → ℤ
greater x y = if int_lt x y then y else x

-- the bits that both have, in two's complement
abbrev pub bits_and : WordType → ℤ → ℤ → ℤ
bits_and word x y = wrapped_value word (int_bit_and w128 x y)

-- the bits that either has
abbrev pub bits_or : WordType → ℤ → ℤ → ℤ
bits_or word x y = wrapped_value word (int_bit_or w128 x y)

-- the bits that one alone has
abbrev pub bits_xor : WordType → ℤ → ℤ → ℤ
bits_xor word x y = wrapped_value word (int_bit_xor w128 x y)

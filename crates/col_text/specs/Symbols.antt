-- The nodes that tokens spell.
use Rattle.std.specs.Prelude.{ℕ, ◌+◌, ℤ, List, [], ◌∷◌, take, drop, nat_eq, find, Option}
use Rattle.std.specs.Prelude.{option_and_then, option_map, codes}
use Rattle.std.specs.List.{position}
use Rattle.std.specs.Option.{option_or}
use Rattle.std.specs.Int.{w64}
use Rattle.std.specs.Str.{bytes_eq}
use Rattle.col_types.specs.TimeUnit.{all_units, unit_name}
use Rattle.col_types.specs.declared.time_unit.TimeUnit.{TimeUnit}
use Rattle.col_types.specs.declared.operator.BinOp.{BinOp}
use Rattle.col_types.specs.declared.operator.BinOp.TheVariants as ops
use Rattle.col_types.specs.declared.operator.ScalarOp.{ScalarOp}
use Rattle.col_types.specs.declared.operator.ScalarOp.TheVariants as scalar_ops
use Rattle.col_types.specs.declared.cast_options.CastOptions.{CastOptions}
use Rattle.col_types.specs.declared.cast_options.CastOptions.TheVariants.{Strict, NonStrict}
use Rattle.col_types.specs.declared.cast_options.CastOptions.TheVariants.{Overflowing}
use Rattle.col_model.specs.Arithmetic.{Signed, word_values, fitting_value}
use Rattle.col_expr.specs.Tree.{Symbol, TakeInput, CastTo, Apply, ApplyRight, ApplyLeft, ToUnit}
use Rattle.col_expr.specs.Tree.{ShiftBy}
use Rattle.col_text.specs.Numbers.{number_of, integer_of}
use Rattle.col_text.specs.Parts.{after_prefix}
use Rattle.col_text.specs.Types.{target_named}

-- `$N` takes input N
abbrev pub input_symbol : List ℕ → Option Symbol
input_symbol text = option_map TakeInput (option_and_then number_of (after_prefix (codes "$") text))

-- a cast by the options, with the type behind the word
abbrev pub cast_symbol_by : List (List ℕ) → CastOptions → List ℕ → List ℕ → Option Symbol
cast_symbol_by zones options word text =
    option_map (λ dtype. CastTo dtype options)
    (option_and_then (target_named zones) (after_prefix word text))

-- `cast:TYPE` makes null of what has no room, `cast!:TYPE` is refused, `cast~:TYPE` wraps
abbrev pub cast_symbol : List (List ℕ) → List ℕ → Option Symbol
cast_symbol zones text =
    option_or (cast_symbol_by zones NonStrict (codes "cast:") text)
    (option_or (cast_symbol_by zones Strict (codes "cast!:") text)
    (cast_symbol_by zones Overflowing (codes "cast~:") text))

-- the sign of an operator between two columns, or between an integer and a column
abbrev pub op_text : BinOp → List ℕ
op_text ops.Add = codes "+"
op_text ops.Sub = codes "-"
op_text ops.Mul = codes "*"
op_text ops.Div = codes "/"
op_text ops.Rem = codes "%"

-- the operator of a sign
abbrev pub op_named : List ℕ → Option BinOp
op_named text =
    find (λ op. bytes_eq text (op_text op))
    (ops.Add ∷ (ops.Sub ∷ (ops.Mul ∷ (ops.Div ∷ (ops.Rem ∷ [])))))

-- the sign of an operator between a column and an integer
abbrev pub scalar_op_text : ScalarOp → List ℕ
scalar_op_text scalar_ops.Add = codes "+"
scalar_op_text scalar_ops.Sub = codes "-"
scalar_op_text scalar_ops.Mul = codes "*"
scalar_op_text scalar_ops.Div = codes "/"
scalar_op_text scalar_ops.Rem = codes "%"
scalar_op_text scalar_ops.TruncDiv = codes "tdiv"

-- the operator of a sign
abbrev pub scalar_op_named : List ℕ → Option ScalarOp
scalar_op_named text =
    find (λ op. bytes_eq text (scalar_op_text op))
    (scalar_ops.Add ∷ (scalar_ops.Sub ∷ (scalar_ops.Mul ∷ (scalar_ops.Div ∷ (scalar_ops.Rem
    ∷ (scalar_ops.TruncDiv ∷ []))))))

-- an operator's sign alone joins two columns
abbrev pub binary_symbol : List ℕ → Option Symbol
binary_symbol text = option_map Apply (op_named text)

-- the byte of `#`
abbrev pub hash : ℕ
hash = 35

-- what stands before the first `#` of a token, and what stands behind it
abbrev pub hash_parts : List ℕ → Option (List ℕ × List ℕ)
hash_parts text =
    option_map (λ at. (take at text, drop (at + 1) text)) (position (λ byte. nat_eq byte hash) text)

-- an operator's sign, `#`, and an integer: the integer is the right operand
abbrev pub right_symbol : List ℕ → Option Symbol
right_symbol text =
    option_and_then (λ (sign, value). option_and_then
    (λ op. option_map (ApplyRight op) (integer_of value)) (scalar_op_named sign))
    (hash_parts text)

-- an integer, `#`, and an operator's sign: the integer is the left operand
abbrev pub left_symbol : List ℕ → Option Symbol
left_symbol text =
    option_and_then (λ (value, sign). option_and_then
    (λ k. option_map (ApplyLeft k) (op_named sign)) (integer_of value))
    (hash_parts text)

-- the unit of a name
abbrev pub unit_named : List ℕ → Option TimeUnit
unit_named text = find (λ unit. bytes_eq text (unit_name unit)) all_units

-- `unit:UNIT` changes the unit
abbrev pub unit_symbol : List ℕ → Option Symbol
unit_symbol text =
    option_map ToUnit (option_and_then unit_named (after_prefix (codes "unit:") text))

-- how many rows a shift goes down: an integer of 64 bits
abbrev pub periods_of : List ℕ → Option ℤ
periods_of text = option_and_then (fitting_value (word_values (Signed w64))) (integer_of text)

-- `shift:P` shifts by P rows
abbrev pub shift_symbol : List ℕ → Option Symbol
shift_symbol text =
    option_map ShiftBy (option_and_then periods_of (after_prefix (codes "shift:") text))

-- the node that a token spells, with the zones handed in before
abbrev pub symbol_of : List (List ℕ) → List ℕ → Option Symbol
symbol_of zones text =
    option_or (input_symbol text) (option_or (cast_symbol zones text)
    (option_or (binary_symbol text) (option_or (right_symbol text)
    (option_or (left_symbol text) (option_or (unit_symbol text) (shift_symbol text))))))

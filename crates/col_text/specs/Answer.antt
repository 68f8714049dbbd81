-- The texts of answers.
use Rattle.std.specs.Prelude.{ℕ, zero, ℤ, pos, ◌++◌, List, [], ◌∷◌, Option, Some, None, length}
use Rattle.std.specs.Prelude.{codes}
use Rattle.std.specs.List.{flat_map}
use Rattle.std.specs.Fmt.{decimal, signed_decimal}
use Rattle.col_types.specs.declared.data_type.DataType.{DataType, Boolean, Int64}
use Rattle.col_model.specs.Value.{Value, Flat, Nested, Whole, Bytes}
use Rattle.col_model.specs.Column.{Column}
use Rattle.col_expr.specs.declared.error.EvalError.{EvalError}
use Rattle.col_expr.specs.declared.error.EvalError.TheVariants as refusals
use Rattle.col_text.specs.Types.{dtype_text}

-- the byte that ends a line
abbrev pub line_feed : ℕ
line_feed = 10

-- a line of this text
abbrev pub line_of : List ℕ → List ℕ
line_of text = text ++ (line_feed ∷ [])

-- the word of a truth value
abbrev pub truth_text : ℤ → List ℕ
truth_text (pos zero) = codes "false"
truth_text _ = codes "true"

-- the text of an integer in a column of the type: a truth value has its word
abbrev pub integer_text : DataType → ℤ → List ℕ
integer_text Boolean x = truth_text x
integer_text _ x = signed_decimal x

-- `null`, or the text of the value; no column of a script has bytes or lists
abbrev pub slot_text : DataType → Option Value → List ℕ
slot_text dtype None = codes "null"
slot_text dtype (Some (Flat (Whole x))) = integer_text dtype x
slot_text dtype (Some (Flat (Bytes bytes))) = []
slot_text dtype (Some (Nested leaves)) = []

-- the line of a slot of a type that is built, whose values all are integers
abbrev pub slot_line : Option Value → List ℕ
slot_line slot = line_of (slot_text Int64 slot)

-- the line of the name, the type and the number of rows
abbrev pub header_text : Column → List ℕ
header_text column =
    line_of (column.name ++ (codes " " ++ (dtype_text column.dtype
    ++ (codes " " ++ decimal (length column.slots)))))

-- that line, and then a line for each slot
abbrev pub column_text : Column → List ℕ
column_text column =
    header_text column ++ flat_map (λ slot. line_of (slot_text column.dtype slot)) column.slots

-- a refused node's number, and what the line says behind it
abbrev pub refused_text : ℕ → List ℕ → List ℕ
refused_text node rest = codes "refused " ++ (decimal node ++ (codes " " ++ rest))

-- two numbers at the end of a line
abbrev pub two_numbers : ℕ → ℕ → List ℕ
two_numbers left right = decimal left ++ (codes " " ++ line_of (decimal right))

-- the line of a refusal; want of memory is none
abbrev pub fault_text : EvalError → List ℕ
fault_text (refusals.NoColumn node index count) =
    refused_text node (codes "column " ++ two_numbers index count)
fault_text (refusals.Lengths node left right) =
    refused_text node (codes "lengths " ++ two_numbers left right)
fault_text (refusals.BadType node) = refused_text node (line_of (codes "type"))
fault_text (refusals.Unsupported node) = refused_text node (line_of (codes "unsupported"))
fault_text (refusals.Scalar node) = refused_text node (line_of (codes "scalar"))
fault_text (refusals.Strict node row) =
    refused_text node (codes "strict " ++ line_of (decimal row))
fault_text refusals.NoMemory = []

-- a refusal that has a line: all but want of memory
abbrev pub HasText : EvalError → Type 0
HasText refusals.NoMemory = ⊥
HasText _ = Unit {0}

-- the line of a bad script
abbrev pub bad_line_text : ℕ → List ℕ
bad_line_text number = line_of (codes "bad line " ++ decimal number)

-- What contracts see of a column of one of the types, and of its words.
use Rattle.std.specs.Prelude.{Bool, Result, Ok, Err, if◌then◌else◌}
use Rattle.std.specs.Int.{w32, w64}
use Rattle.col_types.specs.declared.data_type.DataType.{DataType}
use Rattle.col_types.specs.declared.error.PolarsError.{PolarsError}
use Rattle.col_types.specs.declared.error.PolarsError.TheVariants.{SchemaMismatch}
use Rattle.col_model.specs.Arithmetic.{WordType, Signed}
use Rattle.col_model.specs.Chunked.{Chunked}
use Rattle.col_series.specs.declared.columns.Columns.{Columns}
use Rattle.col_series.specs.declared.columns.Columns.TheVariants as columns
use Rattle.col_series.specs.declared.columns.Physical.{Physical}
use Rattle.col_series.specs.declared.columns.Physical.TheVariants.{Int32, Int64}

-- a column of one of the types, as a column
abbrev pub shown : Columns → Chunked
shown (columns.Date dates) = dates
shown (columns.Datetime moments) = moments
shown (columns.Duration lengths) = lengths
shown (columns.Time times) = times
shown (columns.Int64 integers) = integers

-- the words of a column, as a column of integers
abbrev pub words_shown : Physical → Chunked
words_shown (Int32 words) = words.now
words_shown (Int64 words) = words.now

-- how wide the words are
abbrev pub word_of : Physical → WordType
word_of (Int32 words) = Signed w32
word_of (Int64 words) = Signed w64

-- the column, where its type is of the kind
abbrev pub of_kind : (DataType → Bool) → Chunked → Result Chunked PolarsError
of_kind is_kind chunked = if is_kind chunked.column.dtype then Ok chunked else Err SchemaMismatch

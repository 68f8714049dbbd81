-- A column that lies in chunks: what is stored together is told beside the column and never
-- inside it, so that an equation of columns says nothing of chunks.
use Rattle.std.specs.Prelude.{ℕ, List, [], ◌∷◌, length, map}
use Rattle.col_model.specs.Column.{Column}

-- a column, and how many rows each of its chunks has, in order
pub record Chunked : Type 0 where
  pub column : Column
  pub chunk_lengths : List ℕ

-- the column alone
abbrev pub column_of : Chunked → Column
column_of chunked = chunked.column

-- the columns alone
abbrev pub columns_of : List Chunked → List Column
columns_of chunked = map column_of chunked

-- a column whose rows all lie in one chunk
abbrev pub in_one_chunk : Column → Chunked
in_one_chunk column = record { column = column; chunk_lengths = length column.slots ∷ [] }

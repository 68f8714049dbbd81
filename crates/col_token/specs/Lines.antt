-- The lines of a text.
use Rattle.std.specs.Prelude.{ℕ, Bool, ◌==◌, List, [], ◌∷◌, if◌then◌else◌}
use Rattle.std.specs.List.{onto_first}

-- the byte that ends a line
abbrev pub line_feed : ℕ
line_feed = 10

-- whether a byte is a line feed
abbrev pub is_line_feed : ℕ → Bool
is_line_feed byte = byte == line_feed

-- what stands before each line feed, and what stands behind the last one where that is not empty
abbrev pub lines_of : List ℕ → List (List ℕ)
lines_of [] = []
lines_of (byte ∷ bytes) =
    if is_line_feed byte then [] ∷ lines_of bytes else onto_first byte (lines_of bytes)

-- How many bytes were taken off a source, and put into a sink.
use Rattle.std.specs.Prelude.{◌≡◌, ℕ, ◌≤◌, List, Option, length, take}
use Rattle.std.specs.Io.KnownBytes.{Consumes, Appends}

-- this many bytes were taken
abbrev pub Took : Option (List ℕ) → Option (List ℕ) → ℕ → Type 0
Took old new count = (bytes : List ℕ) × (length bytes ≡ count) × Consumes old new bytes

-- so many bytes at most were taken
abbrev pub TookUpTo : Option (List ℕ) → Option (List ℕ) → ℕ → Type 0
TookUpTo old new most = (bytes : List ℕ) × (length bytes ≤ most) × Consumes old new bytes

-- a front of the text was written
abbrev pub AppendsFront : Option (List ℕ) → Option (List ℕ) → List ℕ → Type 0
AppendsFront old new text = (count : ℕ) × (count ≤ length text) × Appends old new (take count text)

-- The parts of a token, and readings of several tokens.
use Rattle.std.specs.Prelude.{ℕ, ◌-◌, List, [], ◌∷◌, length, take, drop, Option, Some, None}
use Rattle.std.specs.Prelude.{if◌then◌else◌}
use Rattle.std.specs.Option.{option_or}
use Rattle.std.specs.Str.{bytes_eq}

-- what follows the prefix, where the text begins with it
abbrev pub after_prefix : List ℕ → List ℕ → Option (List ℕ)
after_prefix prefix text =
    if bytes_eq (take (length prefix) text) prefix then Some (drop (length prefix) text) else None

-- what stands before the suffix, where the text ends with it
abbrev pub before_suffix : List ℕ → List ℕ → Option (List ℕ)
before_suffix suffix text =
    let cut = length text - length suffix in
    if bytes_eq (drop cut text) suffix then Some (take cut text) else None

-- one in front of the others, none where one of them is none
abbrev pub with_first : {T : Type 0} → Option T → Option (List T) → Option (List T)
with_first (Some first) (Some rest) = Some (first ∷ rest)
with_first (Some first) None = None
with_first None rest = None

-- what all of them are read as, none where one of them is none
abbrev pub all_read : {X Y : Type 0} → (X → Option Y) → List X → Option (List Y)
all_read read [] = Some []
all_read read (x ∷ xs) = with_first (read x) (all_read read xs)

-- the first reading that there is
abbrev pub first_read : {X Y : Type 0} → (X → Option Y) → List X → Option Y
first_read read [] = None
first_read read (x ∷ xs) = option_or (read x) (first_read read xs)

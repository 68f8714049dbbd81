-- The laws by which columns close that are made of values or of items.
use Rattle.std.specs.Prelude.{◌≡◌, ◌++◌, ◌∷◌, [], Bool, List, length, Option}
use Rattle.std.specs.Option.{option_map}
use Rattle.col_model.specs.Value.{whole}
use Rattle.col_chunk.specs.Chunks.{word_slots}
use Rattle.col_chunk.specs.Items.{option_slots}
use Rattle.col_chunk.proofs.ItemLaws as item_laws
use Rattle.col_chunk.proofs.WordLaws as word_laws
use Rattle.col_boolean.specs.Bits.{truth}

pub length-word_slots : (xs : List Bool) → length (word_slots truth xs) ≡ length xs
length-word_slots xs = word_laws.length-word_slots truth xs

-- one item more
pub option_slots_more : (items : List (Option Bool)) (item : Option Bool)
    → option_slots truth (items ++ item ∷ []) ≡ option_slots truth items ++ option_map (λ value. whole (truth value)) item ∷ []
option_slots_more items item = item_laws.option_slots_more truth items item

pub ruleset plain_laws = (length-word_slots)

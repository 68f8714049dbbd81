-- The slots of a line's chunks, one after the other, are the slots of its tokens without the bars.
use Rattle.std.proofs.Common.{◌≡◌, ◌∙◌, ℕ, ℤ, Bool, true, false, List, [], ◌∷◌, ◌++◌, filter, Option, Some, None, refl, sym, ap}
use Rattle.std.specs.Prelude.{option_map, option_and_then, if◌then◌else◌}
use Rattle.std.specs.List.{onto_first, slice_split}
use Rattle.col_types.specs.declared.data_type.DataType.{DataType, Boolean}
use Rattle.col_model.specs.Column.{is_built_type}
use Rattle.col_text.specs.Parts.{with_first, all_read}
use Rattle.col_text.specs.Slots.{ends_chunk, is_filled, chunks_of, slots_in, slots_by, slot_named, integer_slot_of}

-- the slots of pieces of tokens
abbrev piece_slots : (List ℕ → Option (Option ℤ)) → List (List (List ℕ)) → Option (List (Option ℤ))
piece_slots read pieces = option_map slots_in (all_read (all_read read) pieces)

no_tokens : (pieces : Option (List (List (Option ℤ))))
    → option_map slots_in (with_first (Some []) pieces) ≡ option_map slots_in pieces
no_tokens None = refl
no_tokens (Some pieces) = refl

same_piece : (piece : Option (List (Option ℤ))) (left right : Option (List (List (Option ℤ))))
    → option_map slots_in left ≡ option_map slots_in right
    → option_map slots_in (with_first piece left) ≡ option_map slots_in (with_first piece right)
same_piece None left right e = refl
same_piece (Some piece) None None e = refl
same_piece (Some piece) None (Some right) e = cc
same_piece (Some piece) (Some left) None e = cc
same_piece (Some piece) (Some left) (Some right) e =
    let same : slots_in left ≡ slots_in right = cc in
    ap (λ slots. Some (piece ++ slots)) same

-- a piece without tokens has no slots
filled_slots : (read : List ℕ → Option (Option ℤ)) (pieces : List (List (List ℕ)))
    → piece_slots read (filter is_filled pieces) ≡ piece_slots read pieces
filled_slots read [] = refl
filled_slots read ([] ∷ pieces) =
    filled_slots read pieces ∙ sym (no_tokens (all_read (all_read read) pieces))
filled_slots read ((token ∷ tokens) ∷ pieces) =
    same_piece (all_read read (token ∷ tokens)) (all_read (all_read read) (filter is_filled pieces))
    (all_read (all_read read) pieces) (filled_slots read pieces)

first_slot : (slot : Option (Option ℤ)) (piece : Option (List (Option ℤ)))
    (pieces : Option (List (List (Option ℤ))))
    → option_map slots_in (with_first (with_first slot piece) pieces)
    ≡ with_first slot (option_map slots_in (with_first piece pieces))
first_slot None piece pieces = refl
first_slot (Some slot) None pieces = refl
first_slot (Some slot) (Some piece) None = refl
first_slot (Some slot) (Some piece) (Some pieces) = refl

lone_slot : (slot : Option (Option ℤ))
    → option_map slots_in (with_first (with_first slot (Some [])) (Some []))
    ≡ with_first slot (Some [])
lone_slot None = refl
lone_slot (Some slot) = refl

onto_slots : (read : List ℕ → Option (Option ℤ)) (token : List ℕ) (pieces : List (List (List ℕ)))
    → piece_slots read (onto_first token pieces) ≡ with_first (read token) (piece_slots read pieces)
onto_slots read token [] = lone_slot (read token)
onto_slots read token (piece ∷ pieces) =
    first_slot (read token) (all_read read piece) (all_read (all_read read) pieces)

split_by : (read : List ℕ → Option (Option ℤ)) (token : List ℕ) (pieces : List (List (List ℕ)))
    (rest : Option (List (Option ℤ))) (bar : Bool) → piece_slots read pieces ≡ rest
    → piece_slots read (if bar then [] ∷ pieces else onto_first token pieces)
    ≡ (if bar then rest else with_first (read token) rest)
split_by read token pieces rest true e = no_tokens (all_read (all_read read) pieces) ∙ e
split_by read token pieces rest false e = onto_slots read token pieces ∙ ap (with_first (read token)) e

split_slots : (read : List ℕ → Option (Option ℤ)) (tokens : List (List ℕ))
    → piece_slots read (slice_split ends_chunk tokens) ≡ slots_by read tokens
split_slots read [] = refl
split_slots read (token ∷ tokens) =
    split_by read token (slice_split ends_chunk tokens) (slots_by read tokens) (ends_chunk token)
    (split_slots read tokens)

-- the slots of the chunks are those of the tokens
pub slots_in-chunks_of : (dtype : DataType) (tokens : List (List ℕ))
    → option_map slots_in (chunks_of dtype tokens) ≡ slots_by (slot_named dtype) tokens
slots_in-chunks_of dtype tokens =
    filled_slots (slot_named dtype) (slice_split ends_chunk tokens)
    ∙ split_slots (slot_named dtype) tokens

-- what is made of the slots of the chunks is made of the slots of the tokens
pub by_slots : {T : Type 0} (make : List (Option ℤ) → Option T) (chunks : Option (List (List (Option ℤ))))
    (slots : Option (List (Option ℤ))) → option_map slots_in chunks ≡ slots
    → option_and_then (λ chunks. make (slots_in chunks)) chunks ≡ option_and_then make slots
by_slots make None slots e = ap (option_and_then make) e
by_slots make (Some chunks) slots e = ap (option_and_then make) e

-- a column of a type that is built has integers
pub slots_by-built : (dtype : DataType) (tokens : List (List ℕ)) → is_built_type dtype ≡ true
    → slots_by (slot_named dtype) tokens ≡ slots_by integer_slot_of tokens
slots_by-built Boolean tokens built = cc
slots_by-built dtype tokens built = refl

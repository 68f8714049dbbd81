-- The claim on order that a column keeps, and when it is true of a list of slots.
use Rattle.std.specs.Prelude.{Bool, true, false, not, ◌&&◌, ◌||◌, List, [], ◌∷◌, Option, Some, None}
use Rattle.std.specs.Prelude.{is_some, is_none}
use Rattle.std.specs.List.{list_all}
use Rattle.std.specs.Ordering.{int_cmp, nat_cmp, is_gt}
use Rattle.std.specs.Cmp.Lexicographic.{slice_cmp}
use Rattle.col_types.specs.declared.is_sorted.IsSorted.{IsSorted}
use Rattle.col_types.specs.declared.is_sorted.IsSorted.TheVariants.{Ascending, Descending, Not}
use Rattle.col_model.specs.Value.{Leaf, Whole, Bytes, Value, Flat, Nested}

-- integers stand by size, texts and bytes by their bytes
abbrev pub leaf_le : Leaf → Leaf → Bool
leaf_le (Whole x) (Whole y) = not (is_gt (int_cmp x y))
leaf_le (Bytes x) (Bytes y) = not (is_gt (slice_cmp nat_cmp x y))
leaf_le (Whole x) (Bytes y) = true
leaf_le (Bytes x) (Whole y) = false

-- whether two leaves are equal
abbrev pub same_leaf : Leaf → Leaf → Bool
same_leaf x y = leaf_le x y && leaf_le y x

-- whether two lists of leaf slots are equal
abbrev pub same_leaves : List (Option Leaf) → List (Option Leaf) → Bool
same_leaves [] [] = true
same_leaves [] (y ∷ ys) = false
same_leaves (x ∷ xs) [] = false
same_leaves (None ∷ xs) (None ∷ ys) = same_leaves xs ys
same_leaves (None ∷ xs) (Some y ∷ ys) = false
same_leaves (Some x ∷ xs) (None ∷ ys) = false
same_leaves (Some x ∷ xs) (Some y ∷ ys) = same_leaf x y && same_leaves xs ys

-- lists of leaf slots have no order but equality
abbrev pub value_le : Value → Value → Bool
value_le (Flat x) (Flat y) = leaf_le x y
value_le (Nested xs) (Nested ys) = same_leaves xs ys
value_le (Flat x) (Nested ys) = true
value_le (Nested xs) (Flat y) = false

-- whether the first slot may stand before the second; a null is not compared
abbrev pub may_precede : Option Value → Option Value → Bool
may_precede (Some x) (Some y) = value_le x y
may_precede (Some x) None = true
may_precede None y = true

-- each slot may stand before each that follows it
abbrev pub is_ascending : List (Option Value) → Bool
is_ascending [] = true
is_ascending (x ∷ xs) = list_all (may_precede x) xs && is_ascending xs

-- each slot may stand behind each that follows it
abbrev pub is_descending : List (Option Value) → Bool
is_descending [] = true
is_descending (x ∷ xs) = list_all (λ y. may_precede y x) xs && is_descending xs

-- the nulls all stand at the end
abbrev pub nulls_last : List (Option Value) → Bool
nulls_last [] = true
nulls_last (None ∷ xs) = list_all is_none xs
nulls_last (Some x ∷ xs) = nulls_last xs

-- the nulls all stand at the start
abbrev pub nulls_first : List (Option Value) → Bool
nulls_first [] = true
nulls_first (None ∷ xs) = nulls_first xs
nulls_first (Some x ∷ xs) = list_all is_some xs

-- the valid slots stand in the flag's order, and the nulls at one end
abbrev pub is_flag_true : IsSorted → List (Option Value) → Bool
is_flag_true Not slots = true
is_flag_true Ascending slots = is_ascending slots && (nulls_first slots || nulls_last slots)
is_flag_true Descending slots = is_descending slots && (nulls_first slots || nulls_last slots)

-- The claims on the order of a column.
use Rattle.col_types.specs.declared.is_sorted.IsSorted.{IsSorted}
use Rattle.col_types.specs.declared.is_sorted.IsSorted.TheVariants.{Ascending, Descending, Not}

-- The claim that is true of the slots backwards.
abbrev pub reversed : IsSorted → IsSorted
reversed Ascending = Descending
reversed Descending = Ascending
reversed Not = Not

-- The line of a plan, and the lines of a whole plan.
use Rattle.std.specs.Prelude.{ℕ, zero, suc, ℤ, ◌++◌, List, [], ◌∷◌, Option, Some, None}
use Rattle.std.specs.Prelude.{option_and_then, option_map, int_le, if◌then◌else◌, codes}
use Rattle.std.specs.Option.{option_map_or}
use Rattle.std.specs.Fmt.{decimal, signed_decimal}
use Rattle.col_model.specs.Arithmetic.{Interval}
use Rattle.col_expr.specs.Plan.{Plan, interval_in}
use Rattle.col_text.specs.declared.plan.Cover.{Cover}
use Rattle.col_text.specs.Numbers.{number_of, integer_of}
use Rattle.col_text.specs.Answer.{line_of}

-- the interval between two ends
abbrev pub interval_between : ℤ → ℤ → Interval
interval_between low high = record { low = low; high = high }

-- the same, none where the first is above the second
abbrev pub interval_from : ℤ → ℤ → Option Interval
interval_from low high = if int_le low high then Some (interval_between low high) else None

-- the interval whose ends two texts name
abbrev pub interval_named : List ℕ → List ℕ → Option Interval
interval_named low high =
    option_and_then (λ least. option_and_then (interval_from least) (integer_of high))
    (integer_of low)

-- what stands behind `plan`: the number of a node, and the ends of its interval
abbrev pub plan_line : List (List ℕ) → Option (ℕ × Interval)
plan_line (node ∷ (low ∷ (high ∷ []))) =
    option_and_then (λ number. option_map (λ range. (number, range)) (interval_named low high))
    (number_of node)
plan_line _ = None

-- a cover as a pair
abbrev pub cover_of : Cover → ℕ × Interval
cover_of cover = (cover.node, interval_between cover.low cover.high)

-- the line of a covered node, as a script has it
abbrev pub cover_text : ℕ → Interval → List ℕ
cover_text node range =
    codes "plan " ++ (decimal node ++ (codes " " ++ (signed_decimal range.low
    ++ (codes " " ++ line_of (signed_decimal range.high)))))

-- the line of a node, where it is covered
abbrev pub node_text : Plan → ℕ → List ℕ
node_text plan node = option_map_or (cover_text node) (interval_in plan node) []

-- the lines of the covered nodes below a number, in their order
abbrev pub plan_text : Plan → ℕ → List ℕ
plan_text plan zero = []
plan_text plan (suc node) = plan_text plan node ++ node_text plan node

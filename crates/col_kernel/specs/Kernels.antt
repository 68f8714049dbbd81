-- What the kernels of one operand give at a slot; those of two give the formulas of the tables.
use Rattle.std.specs.Prelude.{ℤ, pos, neg_ℤ, Option, Some, unsigned_abs}
use Rattle.col_model.specs.Arithmetic.{WordType, wrapped_value}

-- the magnitude, wrapped
abbrev pub wrapped_abs : WordType → ℤ → Option ℤ
wrapped_abs word x = Some (wrapped_value word (pos (unsigned_abs x)))

-- the negative, wrapped
abbrev pub wrapped_neg : WordType → ℤ → Option ℤ
wrapped_neg word x = Some (wrapped_value word (neg_ℤ x))

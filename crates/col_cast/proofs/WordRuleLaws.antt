-- Integers in a word, by the options of a cast.
use Rattle.std.proofs.Common.{◌≡◌, ◌&&◌, ℤ, zero, suc, pos, negsuc, Bool, true, false, Option, Some, None, refl, cond, arith}
use Rattle.std.specs.Option.{option_and_then}
use Rattle.std.specs.Int.{w8}
use Rattle.col_kernel.specs.WordLaws.{read_unsigned}
use Rattle.col_types.specs.declared.cast_options.CastOptions.{CastOptions}
use Rattle.col_types.specs.declared.cast_options.CastOptions.TheVariants.{Strict, NonStrict, Overflowing}
use Rattle.col_model.specs.Arithmetic.{Interval, WordType, Unsigned, is_within, word_values, fitting_value, wrapped_value}
use Rattle.col_model.specs.Value.{whole, integer_slot}
use Rattle.col_model.specs.Formula.{X, value_of, truth_of}
use Rattle.col_model.specs.CastTable.{narrowed}
use Rattle.col_cast.specs.Casts.{is_wrapping}

-- the only integer that fits as another one is itself
fits-same : (range : Interval) (x r : ℤ) → Some r ≡ fitting_value range x → r ≡ x
fits-same range x r = by_test (is_within range x)
  where
    by_test : (b : Bool) → Some r ≡ cond b (Some x) None → r ≡ x
    by_test true e = cc
    by_test false e = cc

-- what a word holds stays as it is, whatever the options
pub held_word : (options : CastOptions) (word : WordType) (x r : ℤ) → Some r ≡ fitting_value (word_values word) x → wrapped_value word r ≡ r
    → Some (whole r) ≡ integer_slot (value_of (narrowed options word X) x x)
held_word Strict word x r fits wraps = rw (← fits) refl
held_word NonStrict word x r fits wraps = rw (← fits) refl
held_word Overflowing word x r fits wraps =
    let same : r ≡ x = fits-same (word_values word) x r fits in
    rw (← same) (rw wraps refl)

-- what a word doesn't hold is null, or wraps
pub lost_word : (options : CastOptions) (word : WordType) (x r : ℤ) → None ≡ fitting_value (word_values word) x → r ≡ wrapped_value word x
    → cond (is_wrapping options) (Some (whole r)) None ≡ integer_slot (value_of (narrowed options word X) x x)
lost_word Strict word x r fits wraps = rw (← fits) refl
lost_word NonStrict word x r fits wraps = rw (← fits) refl
lost_word Overflowing word x r fits wraps = rw wraps refl

-- a slot that also has to lie in a range
pub slot_within : (range : Interval) (x : ℤ) (valid within : Bool) (given : Option ℤ) → cond valid (Some (whole x)) None ≡ integer_slot given → within ≡ is_within range x
    → cond (valid && within) (Some (whole x)) None ≡ integer_slot (option_and_then (fitting_value range) given)
slot_within range x true within (Some y) e f =
    let same : x ≡ y = cc in
    rw (f, same) (by_test (is_within range y))
  where
    by_test : (b : Bool) → cond b (Some (whole y)) None ≡ integer_slot (cond b (Some y) None)
    by_test true = refl
    by_test false = refl
slot_within range x true within None e f = cc
slot_within range x false within (Some y) e f = cc
slot_within range x false within None e f = refl

-- the numbers of truth values
pub false_word : wrapped_value (Unsigned w8) (pos 0) ≡ pos 0
false_word = read_unsigned w8 0 (omega arith)

pub true_word : wrapped_value (Unsigned w8) (pos 1) ≡ pos 1
true_word = read_unsigned w8 1 (omega arith)

pub truth-other : (x : ℤ) → (x ≡ pos 0 → ⊥) → truth_of x ≡ pos 1
truth-other (pos zero) e = absurd (e refl)
truth-other (pos (suc n)) e = refl
truth-other (negsuc n) e = refl

pub ruleset word_rules = (held_word, lost_word, false_word, true_word, truth-other)

-- Casts between units: what they do to one tick, to a slot, and along a chain.
use Rattle.std.proofs.Common.{◌≡◌, ◌≤◌, ◌^◌, ◌+◌, ◌-◌, ◌*◌, ◌/◌, ℕ, zero, suc, ℤ, pos, negsuc, neg_ℤ, ◌*ℤ◌, Bool, true, false, Option, Some, None, refl, ap, sym, ◌∙◌, cond, arith}
use Rattle.std.specs.Int.{w64}
use Rattle.std.specs.Option.{option_and_then}
use Rattle.std.proofs.lemmas.Int.{ints}
use Rattle.std.proofs.lemmas.Bool.{false≢true, and_parts, and_from, leb-true, le-leb}
use Rattle.col_types.specs.declared.time_unit.TimeUnit.{TimeUnit}
use Rattle.col_types.specs.declared.time_unit.TimeUnit.TheVariants.{Nanoseconds, Microseconds, Milliseconds}
use Rattle.col_model.specs.Arithmetic.{Interval, Signed, word_values, is_within, fitting_value, floor_by, trunc_by}
use Rattle.col_model.specs.Formula.{X, value_of}
use Rattle.col_model.specs.UnitChange.{datetime_in_unit, duration_in_unit}
use Rattle.col_model.specs.UnitLaws.{is_no_coarser, is_no_finer}

-- the integers of 64 bits
abbrev ticks : Interval
ticks = word_values (Signed w64)

-- ---- multiples, and their quotients

neg_thousand : (n : ℕ) → negsuc n *ℤ pos 1000 ≡ negsuc (n * 1000 + 999)
neg_thousand n = omega (arith, ints)

neg_million : (n : ℕ) → negsuc n *ℤ pos 1000000 ≡ negsuc (n * 1000000 + 999999)
neg_million n = omega (arith, ints)

floor_thousand : (x : ℤ) → floor_by (x *ℤ pos 1000) 1000 ≡ x
floor_thousand (pos n) = ap pos (omega arith)
floor_thousand (negsuc n) = rw (neg_thousand n) (ap negsuc (omega arith))

floor_million : (x : ℤ) → floor_by (x *ℤ pos 1000000) 1000000 ≡ x
floor_million (pos n) = ap pos (omega arith)
floor_million (negsuc n) = rw (neg_million n) (ap negsuc (omega arith))

trunc_thousand : (x : ℤ) → trunc_by (x *ℤ pos 1000) 1000 ≡ x
trunc_thousand (pos n) = ap pos (omega arith)
trunc_thousand (negsuc n) =
    let quotient : suc (n * 1000 + 999) / 1000 ≡ suc n = omega arith in
    rw (neg_thousand n) (ap (λ m. neg_ℤ (pos m)) quotient)

trunc_million : (x : ℤ) → trunc_by (x *ℤ pos 1000000) 1000000 ≡ x
trunc_million (pos n) = ap pos (omega arith)
trunc_million (negsuc n) =
    let quotient : suc (n * 1000000 + 999999) / 1000000 ≡ suc n = omega arith in
    rw (neg_million n) (ap (λ m. neg_ℤ (pos m)) quotient)

-- what fits is kept
fitting-kept : (x y : ℤ) → fitting_value ticks x ≡ Some y → y ≡ x
fitting-kept x y = go (is_within ticks x)
  where
    go : (fits : Bool) → cond fits (Some x) None ≡ Some y → y ≡ x
    go true h = cc
    go false h = cc

-- ---- a finer unit and back

-- a multiple that fits comes back by the quotient
came_back : (back : ℤ → ℤ) (x y : ℤ) (k : ℕ) → back (x *ℤ pos k) ≡ x → fitting_value ticks (x *ℤ pos k) ≡ Some y → Some (back y) ≡ Some x
came_back back x y k whole h = ap (λ z. Some (back z)) (fitting-kept (x *ℤ pos k) y h) ∙ ap Some whole

pub moment_back : (u v : TimeUnit) (x y : ℤ) → is_no_coarser u v ≡ true → value_of (datetime_in_unit u v X) x x ≡ Some y → value_of (datetime_in_unit v u X) y y ≡ Some x
moment_back Nanoseconds Nanoseconds x y finer h = sym h
moment_back Nanoseconds Microseconds x y finer h = absurd (false≢true finer)
moment_back Nanoseconds Milliseconds x y finer h = absurd (false≢true finer)
moment_back Microseconds Nanoseconds x y finer h = came_back (λ z. floor_by z 1000) x y 1000 (floor_thousand x) h
moment_back Microseconds Microseconds x y finer h = sym h
moment_back Microseconds Milliseconds x y finer h = absurd (false≢true finer)
moment_back Milliseconds Nanoseconds x y finer h = came_back (λ z. floor_by z 1000000) x y 1000000 (floor_million x) h
moment_back Milliseconds Microseconds x y finer h = came_back (λ z. floor_by z 1000) x y 1000 (floor_thousand x) h
moment_back Milliseconds Milliseconds x y finer h = sym h

pub length_back : (u v : TimeUnit) (x y : ℤ) → is_no_coarser u v ≡ true → value_of (duration_in_unit u v X) x x ≡ Some y → value_of (duration_in_unit v u X) y y ≡ Some x
length_back Nanoseconds Nanoseconds x y finer h = sym h
length_back Nanoseconds Microseconds x y finer h = absurd (false≢true finer)
length_back Nanoseconds Milliseconds x y finer h = absurd (false≢true finer)
length_back Microseconds Nanoseconds x y finer h = came_back (λ z. trunc_by z 1000) x y 1000 (trunc_thousand x) h
length_back Microseconds Microseconds x y finer h = sym h
length_back Microseconds Milliseconds x y finer h = absurd (false≢true finer)
length_back Milliseconds Nanoseconds x y finer h = came_back (λ z. trunc_by z 1000000) x y 1000000 (trunc_million x) h
length_back Milliseconds Microseconds x y finer h = came_back (λ z. trunc_by z 1000) x y 1000 (trunc_thousand x) h
length_back Milliseconds Milliseconds x y finer h = sym h

-- ---- two steps in one

-- a quotient by a thousand, twice
floor_twice : (x : ℤ) → floor_by (floor_by x 1000) 1000 ≡ floor_by x 1000000
floor_twice (pos n) = ap pos (omega arith)
floor_twice (negsuc n) = ap negsuc (omega arith)

neg_trunc : (n : ℕ) → trunc_by (neg_ℤ (pos n)) 1000 ≡ neg_ℤ (pos (n / 1000))
neg_trunc zero = refl
neg_trunc (suc n) = refl

trunc_twice : (x : ℤ) → trunc_by (trunc_by x 1000) 1000 ≡ trunc_by x 1000000
trunc_twice (pos n) = ap pos (omega arith)
trunc_twice (negsuc n) =
    let quotient : suc n / 1000 / 1000 ≡ suc n / 1000000 = omega arith in
    neg_trunc (suc n / 1000) ∙ ap (λ m. neg_ℤ (pos m)) quotient

-- what lies further out than what doesn't fit doesn't fit
further_up : (n m : ℕ) → n ≤ m → is_within ticks (pos n) ≡ false → is_within ticks (pos m) ≡ false
further_up n m le h = go (is_within ticks (pos m)) refl
  where
    go : (fits : Bool) → is_within ticks (pos m) ≡ fits → fits ≡ false
    go false e = refl
    go true e =
        let most : m ≤ 2 ^ 63 - 1 = leb-true m (2 ^ 63 - 1) e in
        let fits : is_within ticks (pos n) ≡ true = le-leb n (2 ^ 63 - 1) (omega arith) in
        absurd (false≢true (sym h ∙ fits))

further_down : (n m : ℕ) → n ≤ m → is_within ticks (negsuc n) ≡ false → is_within ticks (negsuc m) ≡ false
further_down n m le h = go (is_within ticks (negsuc m)) refl
  where
    go : (fits : Bool) → is_within ticks (negsuc m) ≡ fits → fits ≡ false
    go false e = refl
    go true e =
        let most : m ≤ 2 ^ 63 - 1 = leb-true m (2 ^ 63 - 1) (and_parts _ _ e).0 in
        let fits : is_within ticks (negsuc n) ≡ true = and_from _ _ (le-leb n (2 ^ 63 - 1) (omega arith)) refl in
        absurd (false≢true (sym h ∙ fits))

-- a multiple that doesn't fit has no multiple that does
out_of_reach : (x : ℤ) → is_within ticks (x *ℤ pos 1000) ≡ false → is_within ticks (x *ℤ pos 1000000) ≡ false
out_of_reach (pos n) h = further_up (n * 1000) (n * 1000000) (omega arith) h
out_of_reach (negsuc n) h =
    let here : is_within ticks (negsuc (n * 1000 + 999)) ≡ false = rw (neg_thousand n) at h in
    rw (neg_million n) (further_down (n * 1000 + 999) (n * 1000000 + 999999) (omega arith) here)

-- a thousand times a thousand
thousands : (x : ℤ) → x *ℤ pos 1000 *ℤ pos 1000 ≡ x *ℤ pos 1000000
thousands (pos n) = ap pos (omega arith)
thousands (negsuc n) =
    let inner : negsuc n *ℤ pos 1000 *ℤ pos 1000 ≡ negsuc (n * 1000 + 999) *ℤ pos 1000 = ap (λ z. z *ℤ pos 1000) (neg_thousand n) in
    let outer : negsuc ((n * 1000 + 999) * 1000 + 999) ≡ negsuc (n * 1000000 + 999999) = ap negsuc (omega arith) in
    inner ∙ neg_thousand (n * 1000 + 999) ∙ outer ∙ sym (neg_million n)

fit_twice : (x : ℤ) → option_and_then (λ y. fitting_value ticks (y *ℤ pos 1000)) (fitting_value ticks (x *ℤ pos 1000)) ≡ fitting_value ticks (x *ℤ pos 1000000)
fit_twice x = go (is_within ticks (x *ℤ pos 1000)) refl
  where
    go : (fits : Bool) → is_within ticks (x *ℤ pos 1000) ≡ fits → option_and_then (λ y. fitting_value ticks (y *ℤ pos 1000)) (cond fits (Some (x *ℤ pos 1000)) None) ≡ fitting_value ticks (x *ℤ pos 1000000)
    go true h = ap (fitting_value ticks) (thousands x)
    go false h = sym (ap (λ fits. cond fits (Some (x *ℤ pos 1000000)) None) (out_of_reach x h))

kept_option : (slot : Option ℤ) → option_and_then (λ y. Some y) slot ≡ slot
kept_option None = refl
kept_option (Some y) = refl

pub finer_moments : (u v w : TimeUnit) (x : ℤ) → is_no_coarser u v ≡ true → is_no_coarser v w ≡ true → option_and_then (λ y. value_of (datetime_in_unit v w X) y y) (value_of (datetime_in_unit u v X) x x) ≡ value_of (datetime_in_unit u w X) x x
finer_moments Nanoseconds Nanoseconds Nanoseconds x first second = refl
finer_moments Nanoseconds Nanoseconds Microseconds x first second = absurd (false≢true second)
finer_moments Nanoseconds Nanoseconds Milliseconds x first second = absurd (false≢true second)
finer_moments Nanoseconds Microseconds Nanoseconds x first second = absurd (false≢true first)
finer_moments Nanoseconds Microseconds Microseconds x first second = absurd (false≢true first)
finer_moments Nanoseconds Microseconds Milliseconds x first second = absurd (false≢true first)
finer_moments Nanoseconds Milliseconds Nanoseconds x first second = absurd (false≢true first)
finer_moments Nanoseconds Milliseconds Microseconds x first second = absurd (false≢true first)
finer_moments Nanoseconds Milliseconds Milliseconds x first second = absurd (false≢true first)
finer_moments Microseconds Nanoseconds Nanoseconds x first second = kept_option _
finer_moments Microseconds Nanoseconds Microseconds x first second = absurd (false≢true second)
finer_moments Microseconds Nanoseconds Milliseconds x first second = absurd (false≢true second)
finer_moments Microseconds Microseconds Nanoseconds x first second = refl
finer_moments Microseconds Microseconds Microseconds x first second = refl
finer_moments Microseconds Microseconds Milliseconds x first second = absurd (false≢true second)
finer_moments Microseconds Milliseconds Nanoseconds x first second = absurd (false≢true first)
finer_moments Microseconds Milliseconds Microseconds x first second = absurd (false≢true first)
finer_moments Microseconds Milliseconds Milliseconds x first second = absurd (false≢true first)
finer_moments Milliseconds Nanoseconds Nanoseconds x first second = kept_option _
finer_moments Milliseconds Nanoseconds Microseconds x first second = absurd (false≢true second)
finer_moments Milliseconds Nanoseconds Milliseconds x first second = absurd (false≢true second)
finer_moments Milliseconds Microseconds Nanoseconds x first second = fit_twice x
finer_moments Milliseconds Microseconds Microseconds x first second = kept_option _
finer_moments Milliseconds Microseconds Milliseconds x first second = absurd (false≢true second)
finer_moments Milliseconds Milliseconds Nanoseconds x first second = refl
finer_moments Milliseconds Milliseconds Microseconds x first second = refl
finer_moments Milliseconds Milliseconds Milliseconds x first second = refl

pub finer_lengths : (u v w : TimeUnit) (x : ℤ) → is_no_coarser u v ≡ true → is_no_coarser v w ≡ true → option_and_then (λ y. value_of (duration_in_unit v w X) y y) (value_of (duration_in_unit u v X) x x) ≡ value_of (duration_in_unit u w X) x x
finer_lengths Nanoseconds Nanoseconds Nanoseconds x first second = refl
finer_lengths Nanoseconds Nanoseconds Microseconds x first second = absurd (false≢true second)
finer_lengths Nanoseconds Nanoseconds Milliseconds x first second = absurd (false≢true second)
finer_lengths Nanoseconds Microseconds Nanoseconds x first second = absurd (false≢true first)
finer_lengths Nanoseconds Microseconds Microseconds x first second = absurd (false≢true first)
finer_lengths Nanoseconds Microseconds Milliseconds x first second = absurd (false≢true first)
finer_lengths Nanoseconds Milliseconds Nanoseconds x first second = absurd (false≢true first)
finer_lengths Nanoseconds Milliseconds Microseconds x first second = absurd (false≢true first)
finer_lengths Nanoseconds Milliseconds Milliseconds x first second = absurd (false≢true first)
finer_lengths Microseconds Nanoseconds Nanoseconds x first second = kept_option _
finer_lengths Microseconds Nanoseconds Microseconds x first second = absurd (false≢true second)
finer_lengths Microseconds Nanoseconds Milliseconds x first second = absurd (false≢true second)
finer_lengths Microseconds Microseconds Nanoseconds x first second = refl
finer_lengths Microseconds Microseconds Microseconds x first second = refl
finer_lengths Microseconds Microseconds Milliseconds x first second = absurd (false≢true second)
finer_lengths Microseconds Milliseconds Nanoseconds x first second = absurd (false≢true first)
finer_lengths Microseconds Milliseconds Microseconds x first second = absurd (false≢true first)
finer_lengths Microseconds Milliseconds Milliseconds x first second = absurd (false≢true first)
finer_lengths Milliseconds Nanoseconds Nanoseconds x first second = kept_option _
finer_lengths Milliseconds Nanoseconds Microseconds x first second = absurd (false≢true second)
finer_lengths Milliseconds Nanoseconds Milliseconds x first second = absurd (false≢true second)
finer_lengths Milliseconds Microseconds Nanoseconds x first second = fit_twice x
finer_lengths Milliseconds Microseconds Microseconds x first second = kept_option _
finer_lengths Milliseconds Microseconds Milliseconds x first second = absurd (false≢true second)
finer_lengths Milliseconds Milliseconds Nanoseconds x first second = refl
finer_lengths Milliseconds Milliseconds Microseconds x first second = refl
finer_lengths Milliseconds Milliseconds Milliseconds x first second = refl

pub coarser_moments : (u v w : TimeUnit) (x : ℤ) → is_no_finer u v ≡ true → is_no_finer v w ≡ true → option_and_then (λ y. value_of (datetime_in_unit v w X) y y) (value_of (datetime_in_unit u v X) x x) ≡ value_of (datetime_in_unit u w X) x x
coarser_moments Nanoseconds Nanoseconds Nanoseconds x first second = refl
coarser_moments Nanoseconds Nanoseconds Microseconds x first second = refl
coarser_moments Nanoseconds Nanoseconds Milliseconds x first second = refl
coarser_moments Nanoseconds Microseconds Nanoseconds x first second = absurd (false≢true second)
coarser_moments Nanoseconds Microseconds Microseconds x first second = refl
coarser_moments Nanoseconds Microseconds Milliseconds x first second = ap Some (floor_twice x)
coarser_moments Nanoseconds Milliseconds Nanoseconds x first second = absurd (false≢true second)
coarser_moments Nanoseconds Milliseconds Microseconds x first second = absurd (false≢true second)
coarser_moments Nanoseconds Milliseconds Milliseconds x first second = refl
coarser_moments Microseconds Nanoseconds Nanoseconds x first second = absurd (false≢true first)
coarser_moments Microseconds Nanoseconds Microseconds x first second = absurd (false≢true first)
coarser_moments Microseconds Nanoseconds Milliseconds x first second = absurd (false≢true first)
coarser_moments Microseconds Microseconds Nanoseconds x first second = absurd (false≢true second)
coarser_moments Microseconds Microseconds Microseconds x first second = refl
coarser_moments Microseconds Microseconds Milliseconds x first second = refl
coarser_moments Microseconds Milliseconds Nanoseconds x first second = absurd (false≢true second)
coarser_moments Microseconds Milliseconds Microseconds x first second = absurd (false≢true second)
coarser_moments Microseconds Milliseconds Milliseconds x first second = refl
coarser_moments Milliseconds Nanoseconds Nanoseconds x first second = absurd (false≢true first)
coarser_moments Milliseconds Nanoseconds Microseconds x first second = absurd (false≢true first)
coarser_moments Milliseconds Nanoseconds Milliseconds x first second = absurd (false≢true first)
coarser_moments Milliseconds Microseconds Nanoseconds x first second = absurd (false≢true first)
coarser_moments Milliseconds Microseconds Microseconds x first second = absurd (false≢true first)
coarser_moments Milliseconds Microseconds Milliseconds x first second = absurd (false≢true first)
coarser_moments Milliseconds Milliseconds Nanoseconds x first second = absurd (false≢true second)
coarser_moments Milliseconds Milliseconds Microseconds x first second = absurd (false≢true second)
coarser_moments Milliseconds Milliseconds Milliseconds x first second = refl

pub coarser_lengths : (u v w : TimeUnit) (x : ℤ) → is_no_finer u v ≡ true → is_no_finer v w ≡ true → option_and_then (λ y. value_of (duration_in_unit v w X) y y) (value_of (duration_in_unit u v X) x x) ≡ value_of (duration_in_unit u w X) x x
coarser_lengths Nanoseconds Nanoseconds Nanoseconds x first second = refl
coarser_lengths Nanoseconds Nanoseconds Microseconds x first second = refl
coarser_lengths Nanoseconds Nanoseconds Milliseconds x first second = refl
coarser_lengths Nanoseconds Microseconds Nanoseconds x first second = absurd (false≢true second)
coarser_lengths Nanoseconds Microseconds Microseconds x first second = refl
coarser_lengths Nanoseconds Microseconds Milliseconds x first second = ap Some (trunc_twice x)
coarser_lengths Nanoseconds Milliseconds Nanoseconds x first second = absurd (false≢true second)
coarser_lengths Nanoseconds Milliseconds Microseconds x first second = absurd (false≢true second)
coarser_lengths Nanoseconds Milliseconds Milliseconds x first second = refl
coarser_lengths Microseconds Nanoseconds Nanoseconds x first second = absurd (false≢true first)
coarser_lengths Microseconds Nanoseconds Microseconds x first second = absurd (false≢true first)
coarser_lengths Microseconds Nanoseconds Milliseconds x first second = absurd (false≢true first)
coarser_lengths Microseconds Microseconds Nanoseconds x first second = absurd (false≢true second)
coarser_lengths Microseconds Microseconds Microseconds x first second = refl
coarser_lengths Microseconds Microseconds Milliseconds x first second = refl
coarser_lengths Microseconds Milliseconds Nanoseconds x first second = absurd (false≢true second)
coarser_lengths Microseconds Milliseconds Microseconds x first second = absurd (false≢true second)
coarser_lengths Microseconds Milliseconds Milliseconds x first second = refl
coarser_lengths Milliseconds Nanoseconds Nanoseconds x first second = absurd (false≢true first)
coarser_lengths Milliseconds Nanoseconds Microseconds x first second = absurd (false≢true first)
coarser_lengths Milliseconds Nanoseconds Milliseconds x first second = absurd (false≢true first)
coarser_lengths Milliseconds Microseconds Nanoseconds x first second = absurd (false≢true first)
coarser_lengths Milliseconds Microseconds Microseconds x first second = absurd (false≢true first)
coarser_lengths Milliseconds Microseconds Milliseconds x first second = absurd (false≢true first)
coarser_lengths Milliseconds Milliseconds Nanoseconds x first second = absurd (false≢true second)
coarser_lengths Milliseconds Milliseconds Microseconds x first second = absurd (false≢true second)
coarser_lengths Milliseconds Milliseconds Milliseconds x first second = refl

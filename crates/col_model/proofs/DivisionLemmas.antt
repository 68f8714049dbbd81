-- Quotients and rests: what they mean, and where they lie.
use Rattle.std.specs.Prelude.{◌≡◌, ◌≢◌, ◌+◌, ◌*◌, ◌/◌, ◌≤◌, ◌<◌, ◌+ℤ◌, ◌-ℤ◌, ◌*ℤ◌, ◌≤ℤ◌, ◌<ℤ◌, ℕ, ℤ, zero, suc, pos, negsuc, neg_ℤ, false}
use Rattle.std.proofs.Common.{refl, ap, sym, ◌∙◌, arith, inl, inr, ◌⊎◌}
use Rattle.std.proofs.lemmas.Int.{ints, by_lt_z}
use Rattle.std.proofs.Math.IntN.{suc_ℤ, +ℤ_one, suc_ℤ-*ℤ, *ℤ_comm}
use Rattle.std.proofs.lemmas.Bool.{false≢true, le-leb}
use Rattle.std.proofs.lemmas.Nat.{div-add-mod', mod_below}
use borrow.Author.Differences.{up, down, product_is}
use native.Mathlib.Nat.{div-zero, le_trans, div-mul-le_self, le-div_iff_mul-le, mul-le-mul_right, mul-le-mul_left}
use Rattle.col_model.specs.Arithmetic.{is_within, floor_by, trunc_by, floor_div, trunc_div, floor_mod}
use Rattle.col_model.specs.IntervalLaws.{IsFloorQuotient, IsShortOf, DivisionsRoundDown, TruncatesDivisions, DividesByPositive}

-- ---- order

-- v lies between a and b, in either order
abbrev pub Between : ℤ → ℤ → ℤ → Type 0
Between a b v = ((a ≤ℤ v) × (v ≤ℤ b)) ⊎ ((b ≤ℤ v) × (v ≤ℤ a))

pub times_mono : (a b : ℤ) (k : ℕ) → a ≤ℤ b → (a *ℤ pos k) ≤ℤ (b *ℤ pos k)
times_mono a b k h =
    let order : up a + down b ≤ up b + down a = omega (arith, ints) in
    omega (arith, ints, product_is a (pos k), product_is b (pos k), mul-le-mul_right k order)

pub times_turned : (a b : ℤ) (k : ℕ) → a ≤ℤ b → (b *ℤ negsuc k) ≤ℤ (a *ℤ negsuc k)
times_turned a b k h =
    let order : up a + down b ≤ up b + down a = omega (arith, ints) in
    omega (arith, ints, product_is a (negsuc k), product_is b (negsuc k), mul-le-mul_right (suc k) order)

pub div_mono : (a b k : ℕ) → a ≤ b → a / k ≤ b / k
div_mono a b zero h = omega (arith, div-zero a, div-zero b)
div_mono a b (suc k) h = (le-div_iff_mul-le {k = suc k} {x = a / suc k} {y = b} (omega arith)).1 (le_trans (div-mul-le_self a (suc k)) h)

-- a greater divisor gives no greater quotient
pub div_by_more : (n k m : ℕ) → 0 < k → k ≤ m → n / m ≤ n / k
div_by_more n k m p h =
    let within : n / m * k ≤ n = le_trans (mul-le-mul_left (n / m) h) (div-mul-le_self n m) in
    (le-div_iff_mul-le {k = k} {x = n / m} {y = n} p).1 within

pub floor_mono : (a b : ℤ) (k : ℕ) → a ≤ℤ b → floor_by a k ≤ℤ floor_by b k
floor_mono (pos a) (pos b) k h = let d : a / k ≤ b / k = div_mono a b k (omega (arith, ints)) in omega (arith, ints, d)
floor_mono (pos a) (negsuc b) k h = absurd h.le
floor_mono (negsuc a) (pos b) k h = record { le = tt }
floor_mono (negsuc a) (negsuc b) k h = let d : b / k ≤ a / k = div_mono b a k (omega (arith, ints)) in omega (arith, ints, d)

neg_mono : (a b : ℕ) → a ≤ b → neg_ℤ (pos b) ≤ℤ neg_ℤ (pos a)
neg_mono a b h = omega (arith, ints)

neg_below : (a b : ℕ) → neg_ℤ (pos a) ≤ℤ pos b
neg_below a b = omega (arith, ints)

neg_turned : (a b : ℤ) → a ≤ℤ b → neg_ℤ b ≤ℤ neg_ℤ a
neg_turned a b h = omega (arith, ints)

pub trunc_mono : (a b : ℤ) (k : ℕ) → a ≤ℤ b → trunc_by a k ≤ℤ trunc_by b k
trunc_mono (pos a) (pos b) k h = let d : a / k ≤ b / k = div_mono a b k (omega (arith, ints)) in omega (arith, ints, d)
trunc_mono (pos a) (negsuc b) k h = absurd h.le
trunc_mono (negsuc a) (pos b) k h = neg_below (suc a / k) (b / k)
trunc_mono (negsuc a) (negsuc b) k h = neg_mono (suc b / k) (suc a / k) (div_mono (suc b) (suc a) k (omega (arith, ints)))

-- ---- between what two divisors give

floor_divisors : (z : ℤ) (m k n : ℕ) → 0 < m → m ≤ k → k ≤ n → Between (floor_by z m) (floor_by z n) (floor_by z k)
floor_divisors (pos z) m k n p mk kn =
    let less = div_by_more z m k p mk in
    let more = div_by_more z k n (omega arith) kn in
    inr (omega (arith, ints, more), omega (arith, ints, less))
floor_divisors (negsuc z) m k n p mk kn =
    let less = div_by_more z m k p mk in
    let more = div_by_more z k n (omega arith) kn in
    inl (omega (arith, ints, less), omega (arith, ints, more))

trunc_divisors : (z : ℤ) (m k n : ℕ) → 0 < m → m ≤ k → k ≤ n → Between (trunc_by z m) (trunc_by z n) (trunc_by z k)
trunc_divisors (pos z) m k n p mk kn =
    let less = div_by_more z m k p mk in
    let more = div_by_more z k n (omega arith) kn in
    inr (omega (arith, ints, more), omega (arith, ints, less))
trunc_divisors (negsuc z) m k n p mk kn =
    inl (neg_mono _ _ (div_by_more (suc z) m k p mk), neg_mono _ _ (div_by_more (suc z) k n (omega arith) kn))

turned : (a b v : ℤ) → Between a b v → Between b a v
turned a b v (inl (l, h)) = inr (l, h)
turned a b v (inr (l, h)) = inl (l, h)

negated : (a b v : ℤ) → Between a b v → Between (neg_ℤ a) (neg_ℤ b) (neg_ℤ v)
negated a b v (inl (l, h)) = inr (neg_turned _ _ h, neg_turned _ _ l)
negated a b v (inr (l, h)) = inl (neg_turned _ _ h, neg_turned _ _ l)

-- ---- divisions by integers

-- the quotient towards zero by an integer, through the one by a natural number
trunc_up : (x : ℤ) (k : ℕ) → trunc_by x k ≡ trunc_div x (pos k)
trunc_up (pos n) k = refl
trunc_up (negsuc n) k = refl

neg_neg : (n : ℕ) → neg_ℤ (neg_ℤ (pos n)) ≡ pos n
neg_neg zero = refl
neg_neg (suc n) = refl

trunc_down : (x : ℤ) (k : ℕ) → neg_ℤ (trunc_by x (suc k)) ≡ trunc_div x (negsuc k)
trunc_down (pos n) k = refl
trunc_down (negsuc n) k = neg_neg (suc n / suc k)

-- a quotient lies between those of what its dividend lies between
pub floor_between : (a b x y : ℤ) → a ≤ℤ x → x ≤ℤ b → Between (floor_div a y) (floor_div b y) (floor_div x y)
floor_between a b x (pos k) l h = inl (floor_mono a x k l, floor_mono x b k h)
floor_between a b x (negsuc k) l h =
    inr (floor_mono _ _ (suc k) (neg_turned _ _ h), floor_mono _ _ (suc k) (neg_turned _ _ l))

pub trunc_between : (a b x y : ℤ) → a ≤ℤ x → x ≤ℤ b → Between (trunc_div a y) (trunc_div b y) (trunc_div x y)
trunc_between a b x (pos k) l h =
    rw (sym (trunc_up a k), sym (trunc_up b k), sym (trunc_up x k)) (inl (trunc_mono a x k l, trunc_mono x b k h))
trunc_between a b x (negsuc k) l h =
    rw (sym (trunc_down a k), sym (trunc_down b k), sym (trunc_down x k))
    (negated _ _ _ (inl (trunc_mono a x (suc k) l, trunc_mono x b (suc k) h)))

pub product_between : (a b x y : ℤ) → a ≤ℤ x → x ≤ℤ b → Between (a *ℤ y) (b *ℤ y) (x *ℤ y)
product_between a b x (pos k) l h = inl (times_mono a x k l, times_mono x b k h)
product_between a b x (negsuc k) l h = inr (times_turned x b k h, times_turned a x k l)

-- ---- what lies between two divisors of one sign

-- from 0 on, 0 is within
zero_first : (d : ℕ) → is_within (record { low = pos 0; high = pos d }) (pos 0) ≡ false → ⊥
zero_first d none = absurd (false≢true (sym none ∙ le-leb 0 d (omega arith)))

-- between two signs, 0 is within
zero_between : (c d : ℕ) → is_within (record { low = negsuc c; high = pos d }) (pos 0) ≡ false → ⊥
zero_between c d none = absurd (false≢true (sym none ∙ le-leb 0 d (omega arith)))

pub floor_turn : (x c d y : ℤ) → c ≤ℤ y → y ≤ℤ d → is_within (record { low = c; high = d }) (pos 0) ≡ false
    → Between (floor_div x c) (floor_div x d) (floor_div x y)
floor_turn x (pos zero) (pos d) y l h none = absurd (zero_first d none)
floor_turn x (pos zero) (negsuc d) (pos y) l h none = absurd h.le
floor_turn x (pos zero) (negsuc d) (negsuc y) l h none = absurd l.le
floor_turn x (pos (suc c)) (pos d) (pos y) l h none =
    floor_divisors x (suc c) y d (omega arith) (omega (arith, ints)) (omega (arith, ints))
floor_turn x (pos (suc c)) (pos d) (negsuc y) l h none = absurd l.le
floor_turn x (pos (suc c)) (negsuc d) (pos y) l h none = absurd h.le
floor_turn x (pos (suc c)) (negsuc d) (negsuc y) l h none = absurd l.le
floor_turn x (negsuc c) (pos d) y l h none = absurd (zero_between c d none)
floor_turn x (negsuc c) (negsuc d) (pos y) l h none = absurd h.le
floor_turn x (negsuc c) (negsuc d) (negsuc y) l h none =
    turned _ _ _ (floor_divisors (neg_ℤ x) (suc d) (suc y) (suc c) (omega arith) (omega (arith, ints)) (omega (arith, ints)))

pub trunc_turn : (x c d y : ℤ) → c ≤ℤ y → y ≤ℤ d → is_within (record { low = c; high = d }) (pos 0) ≡ false
    → Between (trunc_div x c) (trunc_div x d) (trunc_div x y)
trunc_turn x (pos zero) (pos d) y l h none = absurd (zero_first d none)
trunc_turn x (pos zero) (negsuc d) (pos y) l h none = absurd h.le
trunc_turn x (pos zero) (negsuc d) (negsuc y) l h none = absurd l.le
trunc_turn x (pos (suc c)) (pos d) (pos y) l h none =
    rw (sym (trunc_up x (suc c)), sym (trunc_up x d), sym (trunc_up x y))
    (trunc_divisors x (suc c) y d (omega arith) (omega (arith, ints)) (omega (arith, ints)))
trunc_turn x (pos (suc c)) (pos d) (negsuc y) l h none = absurd l.le
trunc_turn x (pos (suc c)) (negsuc d) (pos y) l h none = absurd h.le
trunc_turn x (pos (suc c)) (negsuc d) (negsuc y) l h none = absurd l.le
trunc_turn x (negsuc c) (pos d) y l h none = absurd (zero_between c d none)
trunc_turn x (negsuc c) (negsuc d) (pos y) l h none = absurd h.le
trunc_turn x (negsuc c) (negsuc d) (negsuc y) l h none =
    rw (sym (trunc_down x c), sym (trunc_down x d), sym (trunc_down x y))
    (negated _ _ _ (turned _ _ _
    (trunc_divisors x (suc d) (suc y) (suc c) (omega arith) (omega (arith, ints)) (omega (arith, ints)))))

-- ---- what quotients and rests are

floor_low : (x : ℤ) (k : ℕ) → 0 < k → (floor_by x k *ℤ pos k) ≤ℤ x
floor_low (pos n) k h = omega (arith, ints, div-mul-le_self n k)
floor_low (negsuc n) k h = omega (arith, ints, div-add-mod' n k, mod_below n k h)

floor_high : (x : ℤ) (k : ℕ) → 0 < k → x <ℤ (floor_by x k *ℤ pos k +ℤ pos k)
floor_high (pos n) k h = omega (arith, ints, div-add-mod' n k, mod_below n k h)
floor_high (negsuc n) k h = omega (arith, ints, div-mul-le_self n k)

-- a greater integer's multiple is a whole divisor further
further : (q z : ℤ) (k : ℕ) → q <ℤ z → (q *ℤ pos k +ℤ pos k) ≤ℤ (z *ℤ pos k)
further q z k h =
    let step : suc_ℤ q ≤ℤ z = rw (sym (+ℤ_one q)) (omega (arith, ints)) in
    rw (sym (suc_ℤ-*ℤ q (pos k))) (times_mono (suc_ℤ q) z k step)

floor_greatest : (x z : ℤ) (k : ℕ) → 0 < k → (z *ℤ pos k) ≤ℤ x → z ≤ℤ floor_by x k
floor_greatest x z k p h =
    by_lt_z (floor_by x k) z
    (λ lt. absurd (omega (arith, ints, further (floor_by x k) z k lt, floor_high x k p, h)))
    (λ le. le)

times_down : (q : ℤ) (k : ℕ) → q *ℤ negsuc k ≡ neg_ℤ (q *ℤ pos (suc k))
times_down q k = omega (arith, ints, product_is q (negsuc k), product_is q (pos (suc k)))

pub floor_quotient : (x divisor : ℤ) → divisor ≢ pos 0 → IsFloorQuotient x divisor (floor_div x divisor)
floor_quotient x (pos zero) h = absurd (h refl)
floor_quotient x (pos (suc k)) h = record {
  not_past = floor_low x (suc k) (omega arith);
  greatest = λ z past. floor_greatest x z (suc k) (omega arith) past;
}
floor_quotient x (negsuc k) h = record {
  not_past =
      omega (arith, ints, floor_low (neg_ℤ x) (suc k) (omega arith), times_down (floor_by (neg_ℤ x) (suc k)) k);
  greatest = λ z past.
      let below : (z *ℤ pos (suc k)) ≤ℤ neg_ℤ x = omega (arith, ints, past, times_down z k) in
      floor_greatest (neg_ℤ x) z (suc k) (omega arith) below;
}

pub floor_rest : (x divisor : ℤ) → divisor ≢ pos 0 → IsShortOf divisor (floor_mod x divisor)
floor_rest x (pos zero) h = absurd (h refl)
floor_rest x (pos (suc k)) h =
    let q = floor_by x (suc k) in
    let same : pos (suc k) *ℤ q ≡ q *ℤ pos (suc k) = *ℤ_comm (pos (suc k)) q in (
      omega (arith, ints, same, floor_low x (suc k) (omega arith)),
      omega (arith, ints, same, floor_high x (suc k) (omega arith)),
    )
floor_rest x (negsuc k) h =
    let q = floor_by (neg_ℤ x) (suc k) in
    let same : negsuc k *ℤ q ≡ neg_ℤ (q *ℤ pos (suc k)) = *ℤ_comm (negsuc k) q ∙ times_down q k in (
      omega (arith, ints, same, floor_high (neg_ℤ x) (suc k) (omega arith)),
      omega (arith, ints, same, floor_low (neg_ℤ x) (suc k) (omega arith)),
    )

back_whole : (x y q : ℤ) → (q *ℤ y) +ℤ (x -ℤ (y *ℤ q)) ≡ x
back_whole x y q = rw (*ℤ_comm y q) (omega (arith, ints))

pub divides_down : DivisionsRoundDown
divides_down x divisor h = record {
  quotient = floor_quotient x divisor h;
  rest = floor_rest x divisor h;
  whole = back_whole x divisor (floor_div x divisor);
}

-- ---- quotients towards zero

left_sign : (x y : ℤ) → trunc_div (neg_ℤ x) y ≡ neg_ℤ (trunc_div x y)
left_sign (pos zero) (pos k) = omega (arith, ints)
left_sign (pos zero) (negsuc k) = omega (arith, ints)
left_sign (pos (suc n)) (pos k) = refl
left_sign (pos (suc n)) (negsuc k) = sym (neg_neg (suc n / suc k))
left_sign (negsuc n) (pos k) = sym (neg_neg (suc n / k))
left_sign (negsuc n) (negsuc k) = refl

right_sign : (x y : ℤ) → trunc_div x (neg_ℤ y) ≡ neg_ℤ (trunc_div x y)
right_sign (pos n) (pos zero) = ap (λ q. pos q) (div-zero n) ∙ sym (ap (λ q. neg_ℤ (pos q)) (div-zero n))
right_sign (negsuc n) (pos zero) = ap (λ q. neg_ℤ (pos q)) (div-zero (suc n)) ∙ sym (ap (λ q. neg_ℤ (neg_ℤ (pos q))) (div-zero (suc n)))
right_sign (pos n) (pos (suc k)) = refl
right_sign (negsuc n) (pos (suc k)) = sym (neg_neg (suc n / suc k))
right_sign (pos n) (negsuc k) = sym (neg_neg (n / suc k))
right_sign (negsuc n) (negsuc k) = refl

pub truncates : TruncatesDivisions
truncates = record { above_zero = λ n k. refl; left_sign = left_sign; right_sign = right_sign }

pub divides_by_positive : (x : ℤ) (k : ℕ) → DividesByPositive x k
divides_by_positive x k = record { down = refl; towards_zero = trunc_up x k }

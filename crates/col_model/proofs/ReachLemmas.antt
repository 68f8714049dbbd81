-- Where the valid values of a formula lie, though it may lose some of them or wrap them.
use Rattle.std.proofs.Common.{◌≡◌, ℤ, zero, suc, pos, negsuc, ◌+ℤ◌, ◌-ℤ◌, ◌*ℤ◌, ◌≤ℤ◌, Bool, true, false, Option, Some, None, if◌then◌else◌, refl, sym, ap, ◌∙◌, subst, arith}
use Rattle.std.specs.Prelude.{◌≢◌}
use Rattle.std.specs.Option.{option_and_then, option_map}
use Rattle.std.specs.Int.{int_min, int_max}
use Rattle.std.proofs.lemmas.Int.{ints, clamps}
use Rattle.col_model.specs.Arithmetic.{Interval, is_within, word_values, fitting_value, wrapped_value, floor_by, trunc_by, floor_mod, unless_zero}
use Rattle.col_model.specs.Formula.{Formula, X, Y, Constant, Sum, Difference, Product, FloorBy, TruncBy, FloorDiv, TruncDiv, FloorMod, Fit, Wrap, NonZero, on_both, value_of, on_intervals, at_ends, between_ends}
use Rattle.col_model.specs.IntervalLaws.{IsShortOf}
use Rattle.col_model.specs.IntervalRoom.{only}
use Rattle.col_model.proofs.WithinLemmas.{IsWithin, within_from}
use Rattle.col_model.proofs.DivisionLemmas.{floor_mono, trunc_mono, floor_rest}
use Rattle.col_model.proofs.WordLemmas.{kept_in_word}
use Rattle.col_model.proofs.IntervalLemmas.{some_both, some_map, sum_within, difference_within, product_within, truth_within}

-- a rest lies short of the divisor on its side of 0
abbrev pub rest_reach : Interval → Interval
rest_reach q = record { low = int_min (pos 0) (q.low +ℤ pos 1); high = int_max (pos 0) (q.high -ℤ pos 1) }

-- the interval of the values that are valid, none where nothing is known of them
abbrev pub reach : Formula → Interval → Interval → Option Interval
reach X a b = Some a
reach Y a b = Some b
reach (Constant k) a b = Some (only k)
reach (Sum f g) a b = on_intervals (λ p q. Some (record { low = p.low +ℤ q.low; high = p.high +ℤ q.high })) (reach f a b) (reach g a b)
reach (Difference f g) a b = on_intervals (λ p q. Some (record { low = p.low -ℤ q.high; high = p.high -ℤ q.low })) (reach f a b) (reach g a b)
reach (Product f g) a b = on_intervals (λ p q. Some (at_ends ◌*ℤ◌ p q)) (reach f a b) (reach g a b)
reach (FloorBy f k) a b = option_map (between_ends (λ v. floor_by v k)) (reach f a b)
reach (TruncBy f k) a b = option_map (between_ends (λ v. trunc_by v k)) (reach f a b)
reach (FloorDiv f g) a b = None
reach (TruncDiv f g) a b = None
reach (FloorMod f g) a b = option_map rest_reach (reach g a b)
reach (Fit range f) a b = Some range
reach (Wrap word f) a b = Some (word_values word)
reach (NonZero f) a b = Some (record { low = pos 0; high = pos 1 })

-- ---- values that there are, taken apart

both_there : (h : ℤ → ℤ → Option ℤ) (o q : Option ℤ) (v : ℤ) → on_both h o q ≡ Some v → (x : ℤ) × (y : ℤ) × (o ≡ Some x) × (q ≡ Some y) × (h x y ≡ Some v)
both_there h None q v e = cc
both_there h (Some x) None v e = cc
both_there h (Some x) (Some y) v e = (x, y, refl, refl, e)

one_there : (h : ℤ → ℤ) (o : Option ℤ) (v : ℤ) → option_map h o ≡ Some v → (x : ℤ) × (o ≡ Some x) × (h x ≡ v)
one_there h None v e = cc
one_there h (Some x) v e = let is : h x ≡ v = cc in (x, refl, is)

fit_there : (range : Interval) (o : Option ℤ) (v : ℤ) → option_and_then (fitting_value range) o ≡ Some v → is_within range v ≡ true
fit_there range None v e = cc
fit_there range (Some x) v e = by_test (is_within range x) refl e
  where
    by_test : (c : Bool) → is_within range x ≡ c → (if c then Some x else None) ≡ Some v → is_within range v ≡ true
    by_test true h e = let same : x ≡ v = cc in ap (is_within range) (sym same) ∙ h
    by_test false h e = cc

divisor_there : (y x v : ℤ) → unless_zero y x ≡ Some v → (y ≢ pos 0) × (x ≡ v)
divisor_there (pos zero) x v e = cc
divisor_there (pos (suc n)) x v e = let is : x ≡ v = cc in ((λ h. cc), is)
divisor_there (negsuc n) x v e = let is : x ≡ v = cc in ((λ h. cc), is)

rest_reached : (q : Interval) (y rest : ℤ) → IsWithin q y → IsShortOf y rest → IsWithin (rest_reach q) rest
rest_reached q (pos k) rest v short = record {
  low = omega (arith, ints, clamps, short.0);
  high = omega (arith, ints, clamps, short.1, v.high);
}
rest_reached q (negsuc k) rest v short = record {
  low = omega (arith, ints, clamps, short.0, v.low);
  high = omega (arith, ints, clamps, short.1);
}

-- ---- the induction

pub reached : (formula : Formula) (a b range : Interval) (x y v : ℤ) → IsWithin a x → IsWithin b y
    → value_of formula x y ≡ Some v → reach formula a b ≡ Some range → IsWithin range v
reached X a b r x y v u w e h =
    let s : a ≡ r = cc in
    let t : x ≡ v = cc in
    let P : Interval → Type 0 = λ i. IsWithin i v in
    let Q : ℤ → Type 0 = λ z. IsWithin a z in
    subst P s (subst Q t u)
reached Y a b r x y v u w e h =
    let s : b ≡ r = cc in
    let t : y ≡ v = cc in
    let P : Interval → Type 0 = λ i. IsWithin i v in
    let Q : ℤ → Type 0 = λ z. IsWithin b z in
    subst P s (subst Q t w)
reached (Constant k) a b r x y v u w e h =
    let s : only k ≡ r = cc in
    let t : k ≡ v = cc in
    let P : Interval → Type 0 = λ i. IsWithin i v in
    let Q : ℤ → Type 0 = λ z. IsWithin (only k) z in
    let same : k ≤ℤ k = omega (arith, ints) in
    subst P s (subst Q t (record { low = same; high = same }))
reached (Sum f g) a b r x y v u w e h =
    let t = both_there _ (value_of f x y) (value_of g x y) v e in
    let q = some_both _ (reach f a b) (reach g a b) r h in
    let F = reached f a b q.0 x y t.0 u w t.2 q.2 in
    let G = reached g a b q.1 x y t.1 u w t.3 q.3 in
    let s : record { low = q.0.low +ℤ q.1.low; high = q.0.high +ℤ q.1.high } ≡ r = cc in
    let z : t.0 +ℤ t.1 ≡ v = cc in
    let P : Interval → Type 0 = λ i. IsWithin i v in
    let Q : ℤ → Type 0 = λ n. IsWithin (record { low = q.0.low +ℤ q.1.low; high = q.0.high +ℤ q.1.high }) n in
    subst P s (subst Q z (sum_within q.0 q.1 t.0 t.1 F G))
reached (Difference f g) a b r x y v u w e h =
    let t = both_there _ (value_of f x y) (value_of g x y) v e in
    let q = some_both _ (reach f a b) (reach g a b) r h in
    let F = reached f a b q.0 x y t.0 u w t.2 q.2 in
    let G = reached g a b q.1 x y t.1 u w t.3 q.3 in
    let s : record { low = q.0.low -ℤ q.1.high; high = q.0.high -ℤ q.1.low } ≡ r = cc in
    let z : t.0 -ℤ t.1 ≡ v = cc in
    let P : Interval → Type 0 = λ i. IsWithin i v in
    let Q : ℤ → Type 0 = λ n. IsWithin (record { low = q.0.low -ℤ q.1.high; high = q.0.high -ℤ q.1.low }) n in
    subst P s (subst Q z (difference_within q.0 q.1 t.0 t.1 F G))
reached (Product f g) a b r x y v u w e h =
    let t = both_there _ (value_of f x y) (value_of g x y) v e in
    let q = some_both _ (reach f a b) (reach g a b) r h in
    let F = reached f a b q.0 x y t.0 u w t.2 q.2 in
    let G = reached g a b q.1 x y t.1 u w t.3 q.3 in
    let s : at_ends ◌*ℤ◌ q.0 q.1 ≡ r = cc in
    let z : t.0 *ℤ t.1 ≡ v = cc in
    let P : Interval → Type 0 = λ i. IsWithin i v in
    let Q : ℤ → Type 0 = λ n. IsWithin (at_ends ◌*ℤ◌ q.0 q.1) n in
    subst P s (subst Q z (product_within q.0 q.1 t.0 t.1 F G))
reached (FloorBy f k) a b r x y v u w e h =
    let t = one_there _ (value_of f x y) v e in
    let q = some_map _ (reach f a b) r h in
    let F = reached f a b q.0 x y t.0 u w t.1 q.1 in
    let P : Interval → Type 0 = λ i. IsWithin i v in
    let Q : ℤ → Type 0 = λ n. IsWithin (between_ends (λ z. floor_by z k) q.0) n in
    subst P q.2 (subst Q t.2 (record { low = floor_mono _ _ k F.low; high = floor_mono _ _ k F.high }))
reached (TruncBy f k) a b r x y v u w e h =
    let t = one_there _ (value_of f x y) v e in
    let q = some_map _ (reach f a b) r h in
    let F = reached f a b q.0 x y t.0 u w t.1 q.1 in
    let P : Interval → Type 0 = λ i. IsWithin i v in
    let Q : ℤ → Type 0 = λ n. IsWithin (between_ends (λ z. trunc_by z k) q.0) n in
    subst P q.2 (subst Q t.2 (record { low = trunc_mono _ _ k F.low; high = trunc_mono _ _ k F.high }))
reached (FloorDiv f g) a b r x y v u w e h = cc
reached (TruncDiv f g) a b r x y v u w e h = cc
reached (FloorMod f g) a b r x y v u w e h =
    let t = both_there _ (value_of f x y) (value_of g x y) v e in
    let q = some_map _ (reach g a b) r h in
    let G = reached g a b q.0 x y t.1 u w t.3 q.1 in
    let d = divisor_there t.1 (floor_mod t.0 t.1) v t.4 in
    let P : Interval → Type 0 = λ i. IsWithin i v in
    let Q : ℤ → Type 0 = λ n. IsWithin (rest_reach q.0) n in
    subst P q.2 (subst Q d.1 (rest_reached q.0 t.1 (floor_mod t.0 t.1) G (floor_rest t.0 t.1 d.0)))
reached (Fit range f) a b r x y v u w e h =
    let s : range ≡ r = cc in
    let P : Interval → Type 0 = λ i. IsWithin i v in
    subst P s (within_from range v (fit_there range (value_of f x y) v e))
reached (Wrap word f) a b r x y v u w e h =
    let t = one_there _ (value_of f x y) v e in
    let s : word_values word ≡ r = cc in
    let P : Interval → Type 0 = λ i. IsWithin i v in
    let Q : ℤ → Type 0 = λ n. IsWithin (word_values word) n in
    subst P s (subst Q t.2 (within_from (word_values word) (wrapped_value word t.0) (kept_in_word word t.0)))
reached (NonZero f) a b r x y v u w e h =
    let t = one_there _ (value_of f x y) v e in
    let s : record { low = pos 0; high = pos 1 } ≡ r = cc in
    let P : Interval → Type 0 = λ i. IsWithin i v in
    let Q : ℤ → Type 0 = λ n. IsWithin (record { low = pos 0; high = pos 1 }) n in
    subst P s (subst Q t.2 (truth_within t.0))

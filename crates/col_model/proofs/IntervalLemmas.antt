-- The interval of a formula holds its exact value.
use Rattle.std.proofs.Common.{◌≡◌, ℤ, zero, suc, pos, negsuc, ◌+ℤ◌, ◌-ℤ◌, ◌*ℤ◌, ◌≤ℤ◌, ◌<ℤ◌, Bool, true, false, ◌&&◌, Option, Some, None, if◌then◌else◌, ◌⊎◌, inl, inr, refl, sym, ap, ◌∙◌, subst, arith}
use Rattle.std.specs.Prelude.{◌≢◌, int_lt}
use Rattle.std.specs.Option.{option_and_then, option_map}
use Rattle.std.specs.Int.{int_min, int_max}
use Rattle.std.proofs.lemmas.Bool.{false≢true}
use Rattle.std.proofs.lemmas.Int.{ints, clamps}
use Rattle.std.proofs.Math.IntN.{*ℤ_comm}
use Rattle.col_model.specs.Arithmetic.{Interval, is_within, word_values, fitting_value, wrapped_value, floor_by, trunc_by, floor_div, trunc_div, floor_mod, unless_zero}
use Rattle.col_model.specs.Formula.{Formula, X, Y, Constant, Sum, Difference, Product, FloorBy, TruncBy, FloorDiv, TruncDiv, FloorMod, Fit, Wrap, NonZero, truth_of, value_of, exact_value_of, on_intervals, spanned, at_ends, quotient_interval, rest_interval, inside_interval, interval_of}
use Rattle.col_model.specs.IntervalLaws.{IsShortOf, IntervalsHold}
use Rattle.col_model.proofs.DivisionLemmas.{Between, floor_mono, trunc_mono, floor_between, trunc_between, product_between, floor_turn, trunc_turn, floor_rest}
use Rattle.col_model.proofs.WithinLemmas.{IsWithin, is_within-true, within_from, trans, inside_from}
use Rattle.col_model.proofs.WordLemmas.{wrapped_value-within}

-- ---- four corners

between_ends-low : (a b v : ℤ) → Between a b v → int_min a b ≤ℤ v
between_ends-low a b v (inl (l, h)) = omega (arith, ints, clamps)
between_ends-low a b v (inr (l, h)) = omega (arith, ints, clamps)

between_ends-high : (a b v : ℤ) → Between a b v → v ≤ℤ int_max a b
between_ends-high a b v (inl (l, h)) = omega (arith, ints, clamps)
between_ends-high a b v (inr (l, h)) = omega (arith, ints, clamps)

least_le : (a b v : ℤ) → (a ≤ℤ v) ⊎ (b ≤ℤ v) → int_min a b ≤ℤ v
least_le a b v (inl h) = omega (arith, ints, clamps)
least_le a b v (inr h) = omega (arith, ints, clamps)

le_greatest : (a b v : ℤ) → (v ≤ℤ a) ⊎ (v ≤ℤ b) → v ≤ℤ int_max a b
le_greatest a b v (inl h) = omega (arith, ints, clamps)
le_greatest a b v (inr h) = omega (arith, ints, clamps)

-- what lies between two values, each of which lies between two corners
pub cornered : (a b c d u w v : ℤ) → Between a b u → Between c d w → Between u w v → IsWithin (spanned a b c d) v
unfolding spanned
cornered a b c d u w v first second (inl (l, h)) = record {
  low = least_le _ _ _ (inl (trans _ _ _ (between_ends-low a b u first) l));
  high = le_greatest _ _ _ (inr (trans _ _ _ h (between_ends-high c d w second)));
}
cornered a b c d u w v first second (inr (l, h)) = record {
  low = least_le _ _ _ (inr (trans _ _ _ (between_ends-low c d w second) l));
  high = le_greatest _ _ _ (inl (trans _ _ _ h (between_ends-high a b u first)));
}

-- ---- each form

pub sum_within : (p q : Interval) (x y : ℤ) → IsWithin p x → IsWithin q y
    → IsWithin (record { low = p.low +ℤ q.low; high = p.high +ℤ q.high }) (x +ℤ y)
sum_within p q x y u v = record { low = omega (arith, ints, u.low, v.low); high = omega (arith, ints, u.high, v.high) }

pub difference_within : (p q : Interval) (x y : ℤ) → IsWithin p x → IsWithin q y
    → IsWithin (record { low = p.low -ℤ q.high; high = p.high -ℤ q.low }) (x -ℤ y)
difference_within p q x y u v = record { low = omega (arith, ints, u.low, v.high); high = omega (arith, ints, u.high, v.low) }

product_turn : (x c d y : ℤ) → c ≤ℤ y → y ≤ℤ d → Between (x *ℤ c) (x *ℤ d) (x *ℤ y)
product_turn x c d y l h = rw (*ℤ_comm x c, *ℤ_comm x d, *ℤ_comm x y) (product_between c d y x l h)

pub product_within : (p q : Interval) (x y : ℤ) → IsWithin p x → IsWithin q y → IsWithin (at_ends ◌*ℤ◌ p q) (x *ℤ y)
product_within p q x y u v =
    cornered _ _ _ _ _ _ _ (product_turn p.low q.low q.high y v.low v.high)
    (product_turn p.high q.low q.high y v.low v.high) (product_between p.low p.high x y u.low u.high)

floor_within : (p q : Interval) (x y : ℤ) → is_within q (pos 0) ≡ false → IsWithin p x → IsWithin q y
    → IsWithin (at_ends floor_div p q) (floor_div x y)
floor_within p q x y none u v =
    cornered _ _ _ _ _ _ _ (floor_turn p.low q.low q.high y v.low v.high none)
    (floor_turn p.high q.low q.high y v.low v.high none) (floor_between p.low p.high x y u.low u.high)

trunc_within : (p q : Interval) (x y : ℤ) → is_within q (pos 0) ≡ false → IsWithin p x → IsWithin q y
    → IsWithin (at_ends trunc_div p q) (trunc_div x y)
trunc_within p q x y none u v =
    cornered _ _ _ _ _ _ _ (trunc_turn p.low q.low q.high y v.low v.high none)
    (trunc_turn p.high q.low q.high y v.low v.high none) (trunc_between p.low p.high x y u.low u.high)

pub truth_within : (x : ℤ) → IsWithin (record { low = pos 0; high = pos 1 }) (truth_of x)
truth_within (pos zero) = record { low = omega (arith, ints); high = omega (arith, ints) }
truth_within (pos (suc n)) = record { low = omega (arith, ints); high = omega (arith, ints) }
truth_within (negsuc n) = record { low = omega (arith, ints); high = omega (arith, ints) }

-- a divisor of an interval without 0
not_zero : (q : Interval) (y : ℤ) → is_within q (pos 0) ≡ false → IsWithin q y → y ≢ pos 0
not_zero q y none v e =
    let P : ℤ → Type 0 = λ z. IsWithin q z in
    absurd (false≢true (sym none ∙ is_within-true q (pos 0) (subst P e v)))

unless-some : (y x : ℤ) → y ≢ pos 0 → unless_zero y x ≡ Some x
unless-some (pos zero) x h = absurd (h refl)
unless-some (pos (suc n)) x h = refl
unless-some (negsuc n) x h = refl

-- the rest lies short of the divisor, on its side of 0
rest_within : (q : Interval) (y rest : ℤ) (above : Bool) → int_lt (pos 0) q.low ≡ above
    → is_within q (pos 0) ≡ false → IsWithin q y → y ≢ pos 0 → IsShortOf y rest
    → IsWithin (if above then record { low = pos 0; high = q.high -ℤ pos 1 } else record { low = q.low +ℤ pos 1; high = pos 0 }) rest
rest_within q (pos k) rest true test none v there short =
    record { low = short.0; high = omega (arith, ints, short.1, v.high) }
rest_within q (negsuc k) rest true test none v there short =
    let above : pos 0 <ℤ q.low = grind (arith, ints) in
    absurd (omega (arith, ints, above, v.low))
rest_within q (pos k) rest false test none v there short =
    let low : q.low ≤ℤ pos 0 = grind (arith, ints) in
    let zero_in : IsWithin q (pos 0) = record { low = low; high = omega (arith, ints, v.high) } in
    absurd (false≢true (sym none ∙ is_within-true q (pos 0) zero_in))
rest_within q (negsuc k) rest false test none v there short =
    record { low = omega (arith, ints, short.0, v.low); high = short.1 }

-- ---- intervals that there are, taken apart

pub some_both : (g : Interval → Interval → Option Interval) (o q : Option Interval) (r : Interval)
    → on_intervals g o q ≡ Some r → (a : Interval) × (b : Interval) × (o ≡ Some a) × (q ≡ Some b) × (g a b ≡ Some r)
some_both g None q r h = cc
some_both g (Some a) None r h = cc
some_both g (Some a) (Some b) r h = (a, b, refl, refl, h)

pub some_map : (g : Interval → Interval) (o : Option Interval) (r : Interval) → option_map g o ≡ Some r
    → (a : Interval) × (o ≡ Some a) × (g a ≡ r)
some_map g None r h = cc
some_map g (Some a) r h = let e : g a ≡ r = cc in (a, refl, e)

some_inside : (range : Interval) (o : Option Interval) (r : Interval) → option_and_then (inside_interval range) o ≡ Some r
    → (o ≡ Some r) × (is_within range r.low ≡ true) × (is_within range r.high ≡ true)
some_inside range None r h = cc
some_inside range (Some a) r h = by_test (is_within range a.low) (is_within range a.high) refl refl h
  where
    by_test : (low high : Bool) → is_within range a.low ≡ low → is_within range a.high ≡ high
        → (if low && high then Some a else None) ≡ Some r
        → (Some a ≡ Some r) × (is_within range r.low ≡ true) × (is_within range r.high ≡ true)
    by_test true true e f h =
        let same : a ≡ r = cc in (
          h,
          ap (λ (i : Interval). is_within range i.low) (sym same) ∙ e,
          ap (λ (i : Interval). is_within range i.high) (sym same) ∙ f,
        )
    by_test true false e f h = cc
    by_test false true e f h = cc
    by_test false false e f h = cc

some_quotient : (f : ℤ → ℤ → ℤ) (p q r : Interval) → quotient_interval f p q ≡ Some r
    → (is_within q (pos 0) ≡ false) × (at_ends f p q ≡ r)
some_quotient f p q r = by_test (is_within q (pos 0)) refl
  where
    by_test : (c : Bool) → is_within q (pos 0) ≡ c → (if c then None else Some (at_ends f p q)) ≡ Some r
        → (is_within q (pos 0) ≡ false) × (at_ends f p q ≡ r)
    by_test true e h = cc
    by_test false e h = let same : at_ends f p q ≡ r = cc in (e, same)

some_rest : (p q r : Interval) → rest_interval p q ≡ Some r
    → (is_within q (pos 0) ≡ false) × ((y : ℤ) (rest : ℤ) → IsWithin q y → IsShortOf y rest → IsWithin r rest)
some_rest p q r = by_test (is_within q (pos 0)) (int_lt (pos 0) q.low) refl refl
  where
    by_test : (c above : Bool) → is_within q (pos 0) ≡ c → int_lt (pos 0) q.low ≡ above
        → (if c then None else if above then Some (record { low = pos 0; high = q.high -ℤ pos 1 })
        else Some (record { low = q.low +ℤ pos 1; high = pos 0 })) ≡ Some r
        → (is_within q (pos 0) ≡ false) × ((y : ℤ) (rest : ℤ) → IsWithin q y → IsShortOf y rest → IsWithin r rest)
    by_test true above e f h = cc
    by_test false true e f h =
        let same : record { low = pos 0; high = q.high -ℤ pos 1 } ≡ r = cc in (
          e,
          λ y rest v short.
              let P : Interval → Type 0 = λ i. IsWithin i rest in
              subst P same (rest_within q y rest true f e v (not_zero q y e v) short),
        )
    by_test false false e f h =
        let same : record { low = q.low +ℤ pos 1; high = pos 0 } ≡ r = cc in (
          e,
          λ y rest v short.
              let P : Interval → Type 0 = λ i. IsWithin i rest in
              subst P same (rest_within q y rest false f e v (not_zero q y e v) short),
        )

-- ---- the induction

-- the same as the law says, by the two ends
pub record IsKept (range : Interval) (formula : Formula) (x y : ℤ) : Type 0 where
  pub value : ℤ
  pub valid : value_of formula x y ≡ Some value
  pub exact : exact_value_of formula x y ≡ Some value
  pub within : IsWithin range value

pub kept : (formula : Formula) (a b range : Interval) (x y : ℤ) → IsWithin a x → IsWithin b y
    → interval_of formula a b ≡ Some range → IsKept range formula x y
kept X a b r x y u v h =
    let e : a ≡ r = cc in
    let P : Interval → Type 0 = λ i. IsWithin i x in
    record { value = x; valid = refl; exact = refl; within = subst P e u }
kept Y a b r x y u v h =
    let e : b ≡ r = cc in
    let P : Interval → Type 0 = λ i. IsWithin i y in
    record { value = y; valid = refl; exact = refl; within = subst P e v }
kept (Constant k) a b r x y u v h =
    let e : record { low = k; high = k } ≡ r = cc in
    let P : Interval → Type 0 = λ i. IsWithin i k in
    let same : k ≤ℤ k = omega (arith, ints) in
    record { value = k; valid = refl; exact = refl; within = subst P e (record { low = same; high = same }) }
kept (Sum f g) a b r x y u v h =
    let t = some_both _ (interval_of f a b) (interval_of g a b) r h in
    let F = kept f a b t.0 x y u v t.2 in
    let G = kept g a b t.1 x y u v t.3 in
    let P : Interval → Type 0 = λ i. IsWithin i (F.value +ℤ G.value) in
    let e : record { low = t.0.low +ℤ t.1.low; high = t.0.high +ℤ t.1.high } ≡ r = cc in
    record {
      value = F.value +ℤ G.value;
      valid = rw (F.valid, G.valid) refl;
      exact = rw (F.exact, G.exact) refl;
      within = subst P e (sum_within t.0 t.1 F.value G.value F.within G.within);
    }
kept (Difference f g) a b r x y u v h =
    let t = some_both _ (interval_of f a b) (interval_of g a b) r h in
    let F = kept f a b t.0 x y u v t.2 in
    let G = kept g a b t.1 x y u v t.3 in
    let P : Interval → Type 0 = λ i. IsWithin i (F.value -ℤ G.value) in
    let e : record { low = t.0.low -ℤ t.1.high; high = t.0.high -ℤ t.1.low } ≡ r = cc in
    record {
      value = F.value -ℤ G.value;
      valid = rw (F.valid, G.valid) refl;
      exact = rw (F.exact, G.exact) refl;
      within = subst P e (difference_within t.0 t.1 F.value G.value F.within G.within);
    }
kept (Product f g) a b r x y u v h =
    let t = some_both _ (interval_of f a b) (interval_of g a b) r h in
    let F = kept f a b t.0 x y u v t.2 in
    let G = kept g a b t.1 x y u v t.3 in
    let P : Interval → Type 0 = λ i. IsWithin i (F.value *ℤ G.value) in
    let e : at_ends ◌*ℤ◌ t.0 t.1 ≡ r = cc in
    record {
      value = F.value *ℤ G.value;
      valid = rw (F.valid, G.valid) refl;
      exact = rw (F.exact, G.exact) refl;
      within = subst P e (product_within t.0 t.1 F.value G.value F.within G.within);
    }
kept (FloorBy f k) a b r x y u v h =
    let t = some_map _ (interval_of f a b) r h in
    let F = kept f a b t.0 x y u v t.1 in
    let P : Interval → Type 0 = λ i. IsWithin i (floor_by F.value k) in
    record {
      value = floor_by F.value k;
      valid = rw F.valid refl;
      exact = rw F.exact refl;
      within = subst P t.2 (record { low = floor_mono _ _ k F.within.low; high = floor_mono _ _ k F.within.high });
    }
kept (TruncBy f k) a b r x y u v h =
    let t = some_map _ (interval_of f a b) r h in
    let F = kept f a b t.0 x y u v t.1 in
    let P : Interval → Type 0 = λ i. IsWithin i (trunc_by F.value k) in
    record {
      value = trunc_by F.value k;
      valid = rw F.valid refl;
      exact = rw F.exact refl;
      within = subst P t.2 (record { low = trunc_mono _ _ k F.within.low; high = trunc_mono _ _ k F.within.high });
    }
kept (FloorDiv f g) a b r x y u v h =
    let t = some_both _ (interval_of f a b) (interval_of g a b) r h in
    let F = kept f a b t.0 x y u v t.2 in
    let G = kept g a b t.1 x y u v t.3 in
    let q = some_quotient floor_div t.0 t.1 r t.4 in
    let P : Interval → Type 0 = λ i. IsWithin i (floor_div F.value G.value) in
    let there = unless-some G.value (floor_div F.value G.value) (not_zero t.1 G.value q.0 G.within) in
    record {
      value = floor_div F.value G.value;
      valid = rw (F.valid, G.valid) there;
      exact = rw (F.exact, G.exact) there;
      within = subst P q.1 (floor_within t.0 t.1 F.value G.value q.0 F.within G.within);
    }
kept (TruncDiv f g) a b r x y u v h =
    let t = some_both _ (interval_of f a b) (interval_of g a b) r h in
    let F = kept f a b t.0 x y u v t.2 in
    let G = kept g a b t.1 x y u v t.3 in
    let q = some_quotient trunc_div t.0 t.1 r t.4 in
    let P : Interval → Type 0 = λ i. IsWithin i (trunc_div F.value G.value) in
    let there = unless-some G.value (trunc_div F.value G.value) (not_zero t.1 G.value q.0 G.within) in
    record {
      value = trunc_div F.value G.value;
      valid = rw (F.valid, G.valid) there;
      exact = rw (F.exact, G.exact) there;
      within = subst P q.1 (trunc_within t.0 t.1 F.value G.value q.0 F.within G.within);
    }
kept (FloorMod f g) a b r x y u v h =
    let t = some_both _ (interval_of f a b) (interval_of g a b) r h in
    let F = kept f a b t.0 x y u v t.2 in
    let G = kept g a b t.1 x y u v t.3 in
    let q = some_rest t.0 t.1 r t.4 in
    let nonzero = not_zero t.1 G.value q.0 G.within in
    let there = unless-some G.value (floor_mod F.value G.value) nonzero in
    record {
      value = floor_mod F.value G.value;
      valid = rw (F.valid, G.valid) there;
      exact = rw (F.exact, G.exact) there;
      within = q.1 G.value (floor_mod F.value G.value) G.within (floor_rest F.value G.value nonzero);
    }
kept (Fit range f) a b r x y u v h =
    let t = some_inside range (interval_of f a b) r h in
    let F = kept f a b r x y u v t.0 in
    let fits = is_within-true range F.value (inside_from range r F.value t.1 t.2 F.within) in
    record {
      value = F.value;
      valid = ap (option_and_then (fitting_value range)) F.valid ∙ ap (λ c. if c then Some F.value else None) fits;
      exact = F.exact;
      within = F.within;
    }
kept (Wrap word f) a b r x y u v h =
    let t = some_inside (word_values word) (interval_of f a b) r h in
    let F = kept f a b r x y u v t.0 in
    let fits = is_within-true (word_values word) F.value (inside_from (word_values word) r F.value t.1 t.2 F.within) in
    record {
      value = F.value;
      valid = ap (option_map (wrapped_value word)) F.valid ∙ ap Some (wrapped_value-within word F.value fits);
      exact = F.exact;
      within = F.within;
    }
kept (NonZero f) a b r x y u v h =
    let t = some_map _ (interval_of f a b) r h in
    let F = kept f a b t.0 x y u v t.1 in
    let P : Interval → Type 0 = λ i. IsWithin i (truth_of F.value) in
    record {
      value = truth_of F.value;
      valid = rw F.valid refl;
      exact = rw F.exact refl;
      within = subst P t.2 (truth_within F.value);
    }

pub intervals_hold : IntervalsHold
intervals_hold formula a b range x y u v h =
    let K = kept formula a b range x y (within_from a x u) (within_from b y v) h in
    record {
      value = K.value;
      valid = K.valid;
      exact = K.exact;
      within = is_within-true range K.value K.within;
    }

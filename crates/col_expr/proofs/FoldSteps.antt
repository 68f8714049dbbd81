-- Casts from unit to unit: what they give, two that go on, and two that turn back.
use Rattle.std.proofs.Common.{◌≡◌, ℕ, ◌+◌, ◌<◌, Bool, true, false, ◌&&◌, List, [], ◌∷◌}
use Rattle.std.proofs.Common.{map, Option, Some, None, is_some, is_none, ◌⊎◌, inl, inr, refl, sym}
use Rattle.std.proofs.Common.{ap, ◌∙◌, subst, arith, nat_lt, ◌/◌, lt-ltb}
use Rattle.std.specs.Prelude.{if◌then◌else◌}
use Rattle.std.specs.List.{range_with_len}
use Rattle.std.proofs.lemmas.Bool.{and_from}
use Rattle.std.proofs.lemmas.Bool.Decides.{nat_tests}
use Rattle.std.proofs.lemmas.Simd.{map-map}
use Rattle.col_types.specs.TimeUnit.{nanos_per_tick}
use Rattle.col_types.specs.DataType.{is_expression_target, same_type, shape_of}
use Rattle.col_types.specs.declared.data_type.DataType.{DataType, Datetime, Duration}
use Rattle.col_types.specs.declared.cast_options.CastOptions.{CastOptions}
use Rattle.col_types.specs.declared.cast_options.CastOptions.TheVariants.{Strict, NonStrict}
use Rattle.col_types.specs.declared.cast_options.CastOptions.TheVariants.{Overflowing}
use Rattle.col_types.specs.declared.time_unit.TimeUnit.{TimeUnit}
use Rattle.col_types.specs.declared.is_sorted.IsSorted.{IsSorted}
use Rattle.col_model.specs.Value.{Value}
use Rattle.col_model.specs.Formula.{Formula, X}
use Rattle.col_model.specs.CastTable.{CastRule, cast_rule, rising, resolved_target}
use Rattle.col_model.specs.ColumnCalls.{cast_slot, first_lost, keeps_order, kept_flag}
use Rattle.col_model.specs.UnitChange.{unit_change, datetime_in_unit, duration_in_unit}
use Rattle.col_model.specs.UnitLaws.{slot_cast, is_no_coarser, is_no_finer}
use Rattle.col_model.specs.declared.ticks.UnitChange.{UnitChange}
use Rattle.col_model.specs.declared.ticks.UnitChange.TheVariants.{Finer, Same, Coarser}
use Rattle.col_model.proofs.ChainLemmas.{finer_moments_one}
use Rattle.col_model.proofs.ChainLemmas.{finer_lengths_one, coarser_moments_one}
use Rattle.col_model.proofs.ChainLemmas.{coarser_lengths_one}
use Rattle.col_expr.specs.Refusal.{cast_refusal_at}
use Rattle.col_expr.specs.Folded.{unit_step, unit_step_by, unit_step_for, goes_on}
use Rattle.col_expr.proofs.FoldFacts.{Facts, cast_facts, slots_by_facts, row_count_by}

-- ---- the ways of two units

pub finer_way : (u v : TimeUnit) (m : ℕ) → unit_change u v ≡ Finer m →
    nanos_per_tick v < nanos_per_tick u
finer_way u v m h =
    by_tests (nat_lt (nanos_per_tick v) (nanos_per_tick u))
    (nat_lt (nanos_per_tick u) (nanos_per_tick v)) _ _ refl h
  where
    by_tests : (b c : Bool) (n k : ℕ) → nat_lt (nanos_per_tick v) (nanos_per_tick u) ≡ b →
        (if b then Finer n else if c then Coarser k else Same) ≡ Finer m →
        nanos_per_tick v < nanos_per_tick u
    by_tests true c n k e h = grind (arith, nat_tests)
    by_tests false true n k e h = cc
    by_tests false false n k e h = cc

coarser_way : (u v : TimeUnit) (m : ℕ) → unit_change u v ≡ Coarser m →
    nanos_per_tick u < nanos_per_tick v
coarser_way u v m h =
    by_tests (nat_lt (nanos_per_tick v) (nanos_per_tick u))
    (nat_lt (nanos_per_tick u) (nanos_per_tick v)) _ _ refl h
  where
    by_tests : (b c : Bool) (n k : ℕ) → nat_lt (nanos_per_tick u) (nanos_per_tick v) ≡ c →
        (if b then Finer n else if c then Coarser k else Same) ≡ Coarser m →
        nanos_per_tick u < nanos_per_tick v
    by_tests true c n k e h = cc
    by_tests false true n k e h = grind (arith, nat_tests)
    by_tests false false n k e h = cc

pub no_coarser : (u v : TimeUnit) → nanos_per_tick v < nanos_per_tick u → is_no_coarser u v ≡ true
no_coarser u v h = grind (arith, nat_tests)

no_finer : (u v : TimeUnit) → nanos_per_tick u < nanos_per_tick v → is_no_finer u v ≡ true
no_finer u v h = grind (arith, nat_tests)

-- what two steps that go on are
abbrev pub OneWay : UnitChange → UnitChange → Type 0
OneWay s t =
    ((m : ℕ) × (n : ℕ) × (s ≡ Finer m) × (t ≡ Finer n))
    ⊎ ((m : ℕ) × (n : ℕ) × (s ≡ Coarser m) × (t ≡ Coarser n))

pub goes_on-parts : (s t : UnitChange) → goes_on (Some s) (Some t) ≡ true → OneWay s t
goes_on-parts (Finer m) (Finer n) h = inl (m, n, refl, refl)
goes_on-parts (Coarser m) (Coarser n) h = inr (m, n, refl, refl)
goes_on-parts s t h = cc

-- ---- slots

null_slot : (rule : Option CastRule) → cast_slot rule None ≡ None
null_slot None = refl
null_slot (Some rule) = refl

pub some_is : {A : Type 0} (x y : A) → Some x ≡ Some y → x ≡ y
some_is x y h = cc

pub null_cast : (a b : DataType) → slot_cast a b None ≡ None
null_cast a b = null_slot (cast_rule a b NonStrict)

-- a slot that stays valid, or was null
abbrev pub StaysValid : (Option Value → Option Value) → Option Value → Type 0
StaysValid f slot = (is_some slot && is_none (f slot)) ≡ false

-- a function of slots loses none of a list where it loses none of its slots
pub none_lost : (f : Option Value → Option Value) (g : ℕ → Option Value) (n : ℕ) (rows : List ℕ) →
    ((row : ℕ) → StaysValid f (g row)) → first_lost f n (map g rows) ≡ None
none_lost f g n [] stays = refl
none_lost f g n (row ∷ rows) stays =
    ap (λ b. if b then Some n else first_lost f (n + 1) (map g rows)) (stays row)
    ∙ none_lost f g (n + 1) rows stays

-- two functions of slots lose none exactly where each of them loses none
both_lost : (f g h : Option Value → Option Value) →
    ((slot : Option Value) → g (f slot) ≡ h slot) → f None ≡ None → g None ≡ None →
    (n : ℕ) (slots : List (Option Value)) →
    is_none (first_lost h n slots)
    ≡ (is_none (first_lost f n slots) && is_none (first_lost g n (map f slots)))
both_lost f g h two nothing null n [] = refl
both_lost f g h two nothing null n (None ∷ slots) =
    both_lost f g h two nothing null (n + 1) slots
    ∙ ap (λ s. is_none (first_lost f (n + 1) slots)
    && is_none (if is_some s && is_none (g s) then Some n else first_lost g (n + 1) (map f slots)))
    (sym nothing)
both_lost f g h two nothing null n (Some x ∷ slots) =
    by_first (both_lost f g h two nothing null (n + 1) slots) (f (Some x)) refl
  where
    and_none : (b : Bool) → (b && false) ≡ false
    and_none true = refl
    and_none false = refl

    by_second : is_none (first_lost h (n + 1) slots)
        ≡ (is_none (first_lost f (n + 1) slots) && is_none (first_lost g (n + 1) (map f slots))) →
        (y : Value) (z : Option Value) → g (Some y) ≡ z → h (Some x) ≡ z →
        is_none (if is_none (h (Some x)) then Some n else first_lost h (n + 1) slots)
        ≡ (is_none (first_lost f (n + 1) slots)
        && is_none (if is_none (g (Some y)) then Some n else first_lost g (n + 1) (map f slots)))
    by_second rest y None e k = rw (e, k) (sym (and_none (is_none (first_lost f (n + 1) slots))))
    by_second rest y (Some z) e k = rw (e, k) rest

    by_first : is_none (first_lost h (n + 1) slots)
        ≡ (is_none (first_lost f (n + 1) slots) && is_none (first_lost g (n + 1) (map f slots))) →
        (y : Option Value) → f (Some x) ≡ y →
        is_none (if is_none (h (Some x)) then Some n else first_lost h (n + 1) slots)
        ≡ (is_none (if is_none (f (Some x)) then Some n else first_lost f (n + 1) slots)
        && is_none (if is_some (f (Some x)) && is_none (g (f (Some x))) then Some n
        else first_lost g (n + 1) (map f slots)))
    by_first rest None e = rw (e, sym (two (Some x)) ∙ ap g e ∙ null) refl
    by_first rest (Some y) e =
        rw e (by_second rest y (g (Some y)) refl (sym (two (Some x)) ∙ ap g e))

-- ---- the rule of a cast from unit to unit

if_rising : (b : Bool) (f g : Formula) →
    (if b then rising f else rising g) ≡ rising (if b then f else g)
if_rising true f g = refl
if_rising false f g = refl

pub record UnitRule (a b : DataType) : Type 0 where
  pub formula : Formula
  pub rule : cast_rule a b NonStrict ≡ rising formula
  pub settled : resolved_target a b ≡ b
  pub shape : shape_of b ≡ b

pub unit_rule : (a b : DataType) (s : UnitChange) → unit_step a b ≡ Some s → UnitRule a b
unit_rule (Datetime u x) (Datetime v y) s h = record {
  formula = if same_type (Datetime u x) (Datetime v y) then X else datetime_in_unit u v X;
  rule = if_rising (same_type (Datetime u x) (Datetime v y)) X (datetime_in_unit u v X);
  settled = refl;
  shape = refl;
}
unit_rule (Duration u) (Duration v) s h = record {
  formula = if same_type (Duration u) (Duration v) then X else duration_in_unit u v X;
  rule = if_rising (same_type (Duration u) (Duration v)) X (duration_in_unit u v X);
  settled = refl;
  shape = refl;
}
unit_rule a b s h = cc

pub own_shape : (a b : DataType) (s : UnitChange) → unit_step a b ≡ Some s → shape_of a ≡ a
own_shape (Datetime u x) (Datetime v y) s h = refl
own_shape (Duration u) (Duration v) s h = refl
own_shape a b s h = cc

-- ---- what a cast from unit to unit gives

abbrev pub keeps_all : DataType → DataType → List (Option Value) → Bool
keeps_all a b slots = is_none (first_lost (slot_cast a b) 0 slots)

abbrev pub step_facts : DataType → DataType → Facts → Facts
step_facts a b f = record {
  name = f.name;
  dtype = Some b;
  rows = f.rows;
  slot = λ row. slot_cast a b (f.slot row);
  flag = kept_flag (keeps_all a b (slots_by_facts f)) f.flag;
}

rising_keeps : (formula : Formula) (rule : Option CastRule) (slots : List (Option Value)) →
    rule ≡ rising formula →
    keeps_order rule slots ≡ is_none (first_lost (cast_slot rule) 0 slots)
rising_keeps formula rule slots is = rw is refl

pub record IsStep (f : Facts) (options : CastOptions) (target : DataType) (s : UnitChange) :
    Type 0 where
  pub from : DataType
  pub typed : f.dtype ≡ Some from
  pub free : options ≡ NonStrict
  pub good : is_expression_target target ≡ true
  pub pair : unit_step from target ≡ Some s
  pub column : cast_facts target options f ≡ step_facts from target f
  pub unrefused : (node : ℕ) →
      cast_refusal_at node f.dtype target options (slots_by_facts f) ≡ None

-- the rule of a settled target
settled_rule : (from target : DataType) → resolved_target from target ≡ target →
    cast_rule from (resolved_target from target) NonStrict ≡ cast_rule from target NonStrict
settled_rule from target settled = ap (λ t. cast_rule from t NonStrict) settled

-- what a cast gives whose change of unit is its all
step_column : (f : Facts) (target from : DataType) (s : UnitChange) → f.dtype ≡ Some from →
    is_expression_target target ≡ true → unit_step from target ≡ Some s →
    cast_facts target NonStrict f ≡ step_facts from target f
step_column f target from s typed good pair =
    let r = unit_rule from target s pair in
    ap (λ d. cast_facts target NonStrict (record f { dtype = d })) typed
    ∙ (λ i. record {
      name = f.name;
      dtype = (ap (λ b. if b then Some (resolved_target from target) else None) good
          ∙ ap Some r.settled) i;
      rows = f.rows;
      slot = λ row. cast_slot (settled_rule from target r.settled i) (f.slot row);
      flag = kept_flag ((ap (λ rule. keeps_order rule (slots_by_facts f))
          (settled_rule from target r.settled)
          ∙ rising_keeps r.formula (cast_rule from target NonStrict) (slots_by_facts f) r.rule)
          i) f.flag;
    })

-- a cast that is a step, from its parts
make_step : (f : Facts) (target from : DataType) (s : UnitChange) → f.dtype ≡ Some from →
    is_expression_target target ≡ true → unit_step from target ≡ Some s →
    IsStep f NonStrict target s
make_step f target from s typed good pair =
    let r = unit_rule from target s pair in
    record {
      from = from;
      typed = typed;
      free = refl;
      good = good;
      pair = pair;
      column = step_column f target from s typed good pair;
      unrefused = λ node. rw (typed, good, settled_rule from target r.settled, r.rule) refl;
    }

-- a cast is a step where its change of unit says so
pub step_is : (f : Facts) (options : CastOptions) (target : DataType) (s : UnitChange) →
    unit_step_for options f.dtype target ≡ Some s → IsStep f options target s
step_is f options target s h = by_dtype f.dtype refl
  where
    by_good : (options : CastOptions) (from : DataType) (good : Bool) → f.dtype ≡ Some from →
        is_expression_target target ≡ good → unit_step_by options from target ≡ Some s →
        IsStep f options target s
    by_good Strict from good typed e k = cc
    by_good Overflowing from good typed e k = cc
    by_good NonStrict from true typed e k = make_step f target from s typed e (rw e at k)
    by_good NonStrict from false typed e k = cc (rw e at k)

    by_dtype : (dtype : Option DataType) → f.dtype ≡ dtype → IsStep f options target s
    by_dtype None e = cc (rw e at h)
    by_dtype (Some from) e =
        by_good options from (is_expression_target target) e refl (rw e at h)

-- a cast that is a step has its change of unit
pub step_told : (f : Facts) (options : CastOptions) (target : DataType) (s : UnitChange) →
    IsStep f options target s → unit_step_for options f.dtype target ≡ Some s
step_told f options target s step = rw (step.typed, step.free, step.good) step.pair

-- ---- two steps that go on

two_steps : (a b c : DataType) (s t : UnitChange) (slot : Option Value) →
    unit_step a b ≡ Some s → unit_step b c ≡ Some t → OneWay s t →
    slot_cast b c (slot_cast a b slot) ≡ slot_cast a c slot
two_steps (Datetime u x) (Datetime v y) (Datetime w z) s t slot h k (inl way) =
    let p = no_coarser u v (finer_way u v way.0 (some_is _ _ h ∙ way.2)) in
    let q = no_coarser v w (finer_way v w way.1 (some_is _ _ k ∙ way.3)) in
    finer_moments_one (u, x) (v, y) ((w, z) ∷ []) slot (and_from _ _ p (and_from _ _ q refl))
two_steps (Datetime u x) (Datetime v y) (Datetime w z) s t slot h k (inr way) =
    let p = no_finer u v (coarser_way u v way.0 (some_is _ _ h ∙ way.2)) in
    let q = no_finer v w (coarser_way v w way.1 (some_is _ _ k ∙ way.3)) in
    coarser_moments_one (u, x) (v, y) ((w, z) ∷ []) slot (and_from _ _ p (and_from _ _ q refl))
two_steps (Duration u) (Duration v) (Duration w) s t slot h k (inl way) =
    let p = no_coarser u v (finer_way u v way.0 (some_is _ _ h ∙ way.2)) in
    let q = no_coarser v w (finer_way v w way.1 (some_is _ _ k ∙ way.3)) in
    finer_lengths_one u v (w ∷ []) slot (and_from _ _ p (and_from _ _ q refl))
two_steps (Duration u) (Duration v) (Duration w) s t slot h k (inr way) =
    let p = no_finer u v (coarser_way u v way.0 (some_is _ _ h ∙ way.2)) in
    let q = no_finer v w (coarser_way v w way.1 (some_is _ _ k ∙ way.3)) in
    coarser_lengths_one u v (w ∷ []) slot (and_from _ _ p (and_from _ _ q refl))
two_steps a b c s t slot h k way = cc

-- their step together goes the same way
pub record Together (a c : DataType) (s : UnitChange) : Type 0 where
  pub step : UnitChange
  pub pair : unit_step a c ≡ Some step
  pub way : OneWay s step

finer_is : (u v : TimeUnit) → nanos_per_tick v < nanos_per_tick u →
    unit_change u v ≡ Finer (nanos_per_tick u / nanos_per_tick v)
finer_is u v h =
    ap (λ b. if b then Finer (nanos_per_tick u / nanos_per_tick v)
    else if nat_lt (nanos_per_tick u) (nanos_per_tick v)
    then Coarser (nanos_per_tick v / nanos_per_tick u) else Same)
    (lt-ltb (nanos_per_tick v) (nanos_per_tick u) h)

coarser_is : (u v : TimeUnit) → nanos_per_tick u < nanos_per_tick v →
    unit_change u v ≡ Coarser (nanos_per_tick v / nanos_per_tick u)
coarser_is u v h =
    let other : nat_lt (nanos_per_tick v) (nanos_per_tick u) ≡ false = grind (arith, nat_tests) in
    ap (λ b. if b then Finer (nanos_per_tick u / nanos_per_tick v)
    else if nat_lt (nanos_per_tick u) (nanos_per_tick v)
    then Coarser (nanos_per_tick v / nanos_per_tick u) else Same) other
    ∙ ap (λ b. if b then Coarser (nanos_per_tick v / nanos_per_tick u) else Same)
    (lt-ltb (nanos_per_tick u) (nanos_per_tick v) h)

units_together : (u v w : TimeUnit) → OneWay (unit_change u v) (unit_change v w) →
    OneWay (unit_change u v) (unit_change u w)
units_together u v w (inl way) =
    let p = finer_way u v way.0 way.2 in
    let q = finer_way v w way.1 way.3 in
    inl (way.0, nanos_per_tick u / nanos_per_tick w, way.2, finer_is u w (omega arith))
units_together u v w (inr way) =
    let p = coarser_way u v way.0 way.2 in
    let q = coarser_way v w way.1 way.3 in
    inr (way.0, nanos_per_tick w / nanos_per_tick u, way.2, coarser_is u w (omega arith))

one_step : (a b c : DataType) (s t : UnitChange) → unit_step a b ≡ Some s →
    unit_step b c ≡ Some t → OneWay s t → Together a c s
one_step (Datetime u x) (Datetime v y) (Datetime w z) s t h k way =
    let p : unit_change u v ≡ s = some_is _ _ h in
    let q : unit_change v w ≡ t = some_is _ _ k in
    record {
      step = unit_change u w;
      pair = refl;
      way = rw (← p) (units_together u v w (rw (p, q) way));
    }
one_step (Duration u) (Duration v) (Duration w) s t h k way =
    let p : unit_change u v ≡ s = some_is _ _ h in
    let q : unit_change v w ≡ t = some_is _ _ k in
    record {
      step = unit_change u w;
      pair = refl;
      way = rw (← p) (units_together u v w (rw (p, q) way));
    }
one_step a b c s t h k way = cc

-- where one step leads to a finer unit, so does another that goes its way
pub both_finer : (s t : UnitChange) (m : ℕ) → OneWay s t → s ≡ Finer m →
    (n : ℕ) × (t ≡ Finer n)
both_finer s t m (inl way) h = (way.1, way.3)
both_finer s t m (inr way) h = cc (sym h ∙ way.2)

pub finer_first : (s t : UnitChange) (m : ℕ) → OneWay s t → t ≡ Finer m →
    (n : ℕ) × (s ≡ Finer n)
finer_first s t m (inl way) h = (way.0, way.2)
finer_first s t m (inr way) h = cc (sym h ∙ way.3)

pub both_coarser : (s t : UnitChange) (m : ℕ) → OneWay s t → s ≡ Coarser m →
    (n : ℕ) × (t ≡ Coarser n)
both_coarser s t m (inl way) h = cc (sym h ∙ way.2)
both_coarser s t m (inr way) h = (way.1, way.3)

kept_twice : (p q : Bool) (flag : IsSorted) →
    kept_flag (p && q) flag ≡ kept_flag q (kept_flag p flag)
kept_twice true q flag = refl
kept_twice false true flag = refl
kept_twice false false flag = refl

-- the facts of two steps are those of the one
twice_facts : (f : Facts) (a b c : DataType) →
    ((slot : Option Value) → slot_cast b c (slot_cast a b slot) ≡ slot_cast a c slot) →
    step_facts a c f ≡ step_facts b c (step_facts a b f)
twice_facts f a b c two =
    let rows = range_with_len 0 (row_count_by f) in
    let kept : keeps_all a c (slots_by_facts f)
    ≡ (keeps_all a b (slots_by_facts f) && keeps_all b c (slots_by_facts (step_facts a b f))) =
    both_lost (slot_cast a b) (slot_cast b c) (slot_cast a c) two (null_cast a b) (null_cast b c) 0
    (slots_by_facts f)
    ∙ ap (λ slots. keeps_all a b (slots_by_facts f) && keeps_all b c slots)
    (map-map (slot_cast a b) f.slot rows) in
    λ i. record {
      name = f.name;
      dtype = Some c;
      rows = f.rows;
      slot = λ row. sym (two (f.slot row)) i;
      flag = (ap (λ b. kept_flag b f.flag) kept
          ∙ kept_twice (keeps_all a b (slots_by_facts f))
          (keeps_all b c (slots_by_facts (step_facts a b f))) f.flag) i;
    }

pub record IsJoined (f : Facts) (options second : CastOptions) (target last : DataType)
    (s : UnitChange) : Type 0 where
  pub step : UnitChange
  pub is_step : IsStep f second last step
  pub way : OneWay s step
  pub same : cast_facts last second f ≡ cast_facts last second (cast_facts target options f)

-- two steps that go on are one cast
pub joined_step : (f : Facts) (options second : CastOptions) (target last : DataType)
    (s t : UnitChange) → IsStep f options target s →
    IsStep (cast_facts target options f) second last t → OneWay s t →
    IsJoined f options second target last s
joined_step f options second target last s t one two way =
    let between : two.from ≡ target =
    some_is _ _ (sym two.typed ∙ ap (λ (g : Facts). g.dtype) one.column) in
    let pair : unit_step target last ≡ Some t = rw between at two.pair in
    let both = one_step one.from target last s t one.pair pair way in
    let step = make_step f last one.from both.step one.typed two.good both.pair in
    let P : CastOptions → Type 0 = λ o. IsStep f o last both.step in
    record {
      step = both.step;
      is_step = subst P (sym two.free) step;
      way = both.way;
      same = ap (λ o. cast_facts last o f) two.free
          ∙ step_column f last one.from both.step one.typed two.good both.pair
          ∙ twice_facts f one.from target last
          (λ slot. two_steps one.from target last s t slot one.pair pair way)
          ∙ ap (λ b. step_facts b last (step_facts one.from target f)) (sym between)
          ∙ ap (step_facts two.from last) (sym one.column) ∙ sym two.column;
    }

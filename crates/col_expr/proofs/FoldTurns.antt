-- A cast to a finer unit and back, where no slot is lost; and what a covered cast says.
use Rattle.std.proofs.Common.{◌≡◌, ℕ, ◌≤◌, true, ◌&&◌, List, [], ◌∷◌, ◌++◌}
use Rattle.std.proofs.Common.{Option, Some, None, is_some, is_none, refl, sym}
use Rattle.std.proofs.Common.{ap, ◌∙◌, subst, arith, length-append}
use Rattle.std.specs.List.{All, range_with_len}
use Rattle.std.proofs.lemmas.Bool.{and_parts}
use Rattle.std.proofs.lemmas.List.Elements.{All-tail}
use Rattle.std.proofs.lemmas.List.{get_or_append_left}
use Rattle.col_types.specs.TimeUnit.{nanos_per_tick}
use Rattle.col_types.specs.DataType.{same_type, shape_of}
use Rattle.col_types.specs.declared.data_type.DataType.{DataType, Datetime, Duration}
use Rattle.col_types.specs.declared.cast_options.CastOptions.{CastOptions}
use Rattle.col_types.specs.declared.cast_options.CastOptions.TheVariants.{NonStrict}
use Rattle.col_types.specs.declared.time_unit.TimeUnit.{TimeUnit}
use Rattle.col_types.specs.declared.time_unit.TimeUnit.TheVariants.{Nanoseconds, Microseconds}
use Rattle.col_types.specs.declared.time_unit.TimeUnit.TheVariants.{Milliseconds}
use Rattle.col_types.proofs.TypeLemmas.{same_type-Decides}
use Rattle.col_model.specs.Value.{Value, whole}
use Rattle.col_model.specs.Arithmetic.{Interval}
use Rattle.col_model.specs.Column.{Column, values_of}
use Rattle.col_model.specs.Formula.{spanned}
use Rattle.col_model.specs.CastTable.{cast_rule}
use Rattle.col_model.specs.ColumnCalls.{kept_flag}
use Rattle.col_model.specs.UnitChange.{unit_change}
use Rattle.col_model.specs.UnitLaws.{slot_cast}
use Rattle.col_model.specs.declared.ticks.UnitChange.TheVariants.{Finer, Coarser}
use Rattle.col_model.proofs.ChainLemmas.{moments_back, lengths_back}
use Rattle.col_expr.specs.Tree.{Tree, Cast}
use Rattle.col_expr.specs.Numbers.{Numbers, number_at, below}
use Rattle.col_expr.specs.Meaning.{dtype_of, slot_at, cast_rule_for}
use Rattle.col_expr.specs.Plan.{Plan, interval_in, cast_formula, formula_for, image_by}
use Rattle.col_expr.specs.Plan.{bound_by, is_image_inside, fits_type, is_kept_within, keeps_rule}
use Rattle.col_expr.specs.Plan.{rule_holds}
use Rattle.col_expr.specs.PlanLaws.{IsKeptBy}
use Rattle.col_expr.specs.Folded.{unit_step, is_type, is_covered}
use Rattle.col_expr.proofs.FoldFacts.{Facts, facts, cast_facts, slots_by_facts, row_count_by}
use Rattle.col_expr.proofs.FoldSteps.{finer_way, no_coarser, some_is, null_cast, StaysValid}
use Rattle.col_expr.proofs.FoldSteps.{none_lost, own_shape, unit_rule, keeps_all, step_facts}
use Rattle.col_expr.proofs.FoldSteps.{IsStep}

-- ---- slots

came_back : (a b : DataType) (m : ℕ) (before after : Value) → unit_step a b ≡ Some (Finer m) →
    slot_cast a b (Some before) ≡ Some after → slot_cast b a (Some after) ≡ Some before
came_back (Datetime u x) (Datetime v y) m before after h there =
    moments_back (u, x) (v, y) before after (no_coarser u v (finer_way u v m (some_is _ _ h))) there
came_back (Duration u) (Duration v) m before after h there =
    lengths_back u v before after (no_coarser u v (finer_way u v m (some_is _ _ h))) there
came_back a b m before after h there = cc

-- a slot that is there in the finer unit, if it was valid
abbrev pub Survives : DataType → DataType → Option Value → Type 0
Survives a b slot =
    (x : Value) → slot ≡ Some x → (y : Value) × (slot_cast a b slot ≡ Some y)

-- a slot that goes to the finer unit and comes back
record Returns (a b : DataType) (slot : Option Value) : Type 0 where
  there : StaysValid (slot_cast a b) slot
  back : StaysValid (slot_cast b a) (slot_cast a b slot)
  same : slot ≡ slot_cast b a (slot_cast a b slot)

returns_by : (a b : DataType) (m : ℕ) (slot : Option Value) → unit_step a b ≡ Some (Finer m) →
    Survives a b slot → Returns a b slot
returns_by a b m None h survives = record {
  there = refl;
  back = ap (λ s. is_some s && is_none (slot_cast b a s)) (null_cast a b);
  same = sym (ap (slot_cast b a) (null_cast a b) ∙ null_cast b a);
}
returns_by a b m (Some x) h survives =
    let y = survives x refl in
    let back : slot_cast b a (Some y.0) ≡ Some x = came_back a b m x y.0 h y.1 in
    record {
      there = ap is_none y.1;
      back = ap (λ s. is_some s && is_none (slot_cast b a s)) y.1 ∙ ap is_none back;
      same = sym (ap (slot_cast b a) y.1 ∙ back);
    }

-- the facts of a step to a finer unit and back
back_facts : (f : Facts) (a b : DataType) (m : ℕ) → f.dtype ≡ Some a →
    unit_step a b ≡ Some (Finer m) → ((row : ℕ) → Survives a b (f.slot row)) →
    f ≡ step_facts b a (step_facts a b f)
back_facts f a b m typed h survives =
    let rows = range_with_len 0 (row_count_by f) in
    let each : (row : ℕ) → Returns a b (f.slot row) =
    λ row. returns_by a b m (f.slot row) h (survives row) in
    let there : keeps_all a b (slots_by_facts f) ≡ true =
    ap is_none (none_lost (slot_cast a b) f.slot 0 rows (λ row. (each row).there)) in
    let back : keeps_all b a (slots_by_facts (step_facts a b f)) ≡ true =
    ap is_none (none_lost (slot_cast b a) (λ row. slot_cast a b (f.slot row)) 0 rows
    (λ row. (each row).back)) in
    λ i. record {
      name = f.name;
      dtype = typed i;
      rows = f.rows;
      slot = λ row. (each row).same i;
      flag = (ap (λ kept. kept_flag kept f.flag) (sym there)
          ∙ ap (λ kept. kept_flag kept (kept_flag (keeps_all a b (slots_by_facts f)) f.flag))
          (sym back)) i;
    }

-- a type that is the one of the operand
type_is : (from target : DataType) → shape_of from ≡ from → shape_of target ≡ target →
    same_type from target ≡ true → from ≡ target
type_is from target own other same =
    sym own ∙ (same_type-Decides from target).0 same ∙ other

-- a step to a finer unit that loses no slot, and back
pub turned_back : (f : Facts) (options second : CastOptions) (target last : DataType) (m n : ℕ) →
    IsStep f options target (Finer m) →
    IsStep (cast_facts target options f) second last (Coarser n) →
    is_type f.dtype last ≡ true →
    ((row : ℕ) (x : Value) → f.slot row ≡ Some x →
    (y : Value) × ((cast_facts target options f).slot row ≡ Some y)) →
    f ≡ cast_facts last second (cast_facts target options f)
turned_back f options second target last m n one two same valid =
    let between : two.from ≡ target =
    some_is _ _ (sym two.typed ∙ ap (λ (g : Facts). g.dtype) one.column) in
    let start : one.from ≡ last =
    type_is one.from last (own_shape one.from target (Finer m) one.pair)
    (unit_rule two.from last (Coarser n) two.pair).shape
    (sym (ap (λ d. is_type d last) one.typed) ∙ same) in
    back_facts f one.from target m one.typed one.pair
    (λ row x there.
    let y = valid row x there in
    (y.0, sym (ap (λ (g : Facts). g.slot row) one.column) ∙ y.1))
    ∙ ap (λ d. step_facts target d (step_facts one.from target f)) start
    ∙ ap (λ d. step_facts d last (step_facts one.from target f)) (sym between)
    ∙ ap (step_facts two.from last) (sym one.column) ∙ sym two.column

-- ---- what a plan says of a cast

-- no step to a finer unit
not_finer : (u v : TimeUnit) (m : ℕ) → nanos_per_tick u ≤ nanos_per_tick v →
    unit_change u v ≡ Finer m → ⊥
not_finer u v m coarse h = let fine = finer_way u v m h in omega arith

-- a step to a finer unit has no interval over all the values of its type
wide_moments : (u v : TimeUnit) (x y : Option (List ℕ)) (m : ℕ) → unit_change u v ≡ Finer m →
    image_by (cast_formula (cast_rule (Datetime u x) (Datetime v y) NonStrict))
    (values_of (Datetime u x)) (values_of (Datetime u x)) ≡ None
unfolding spanned
wide_moments Nanoseconds Nanoseconds x y m h =
    absurd (not_finer Nanoseconds Nanoseconds m (omega arith) h)
wide_moments Nanoseconds Microseconds x y m h =
    absurd (not_finer Nanoseconds Microseconds m (omega arith) h)
wide_moments Nanoseconds Milliseconds x y m h =
    absurd (not_finer Nanoseconds Milliseconds m (omega arith) h)
wide_moments Microseconds Nanoseconds x y m h = refl
wide_moments Microseconds Microseconds x y m h =
    absurd (not_finer Microseconds Microseconds m (omega arith) h)
wide_moments Microseconds Milliseconds x y m h =
    absurd (not_finer Microseconds Milliseconds m (omega arith) h)
wide_moments Milliseconds Nanoseconds x y m h = refl
wide_moments Milliseconds Microseconds x y m h = refl
wide_moments Milliseconds Milliseconds x y m h =
    absurd (not_finer Milliseconds Milliseconds m (omega arith) h)

wide_lengths : (u v : TimeUnit) (m : ℕ) → unit_change u v ≡ Finer m →
    image_by (cast_formula (cast_rule (Duration u) (Duration v) NonStrict))
    (values_of (Duration u)) (values_of (Duration u)) ≡ None
unfolding spanned
wide_lengths Nanoseconds Nanoseconds m h =
    absurd (not_finer Nanoseconds Nanoseconds m (omega arith) h)
wide_lengths Nanoseconds Microseconds m h =
    absurd (not_finer Nanoseconds Microseconds m (omega arith) h)
wide_lengths Nanoseconds Milliseconds m h =
    absurd (not_finer Nanoseconds Milliseconds m (omega arith) h)
wide_lengths Microseconds Nanoseconds m h = refl
wide_lengths Microseconds Microseconds m h =
    absurd (not_finer Microseconds Microseconds m (omega arith) h)
wide_lengths Microseconds Milliseconds m h =
    absurd (not_finer Microseconds Milliseconds m (omega arith) h)
wide_lengths Milliseconds Nanoseconds m h = refl
wide_lengths Milliseconds Microseconds m h = refl
wide_lengths Milliseconds Milliseconds m h =
    absurd (not_finer Milliseconds Milliseconds m (omega arith) h)

wide_step : (a b : DataType) (m : ℕ) → unit_step a b ≡ Some (Finer m) →
    image_by (cast_formula (cast_rule a b NonStrict)) (values_of a) (values_of a) ≡ None
wide_step (Datetime u x) (Datetime v y) m h = wide_moments u v x y m (some_is _ _ h)
wide_step (Duration u) (Duration v) m h = wide_lengths u v m (some_is _ _ h)
wide_step a b m h = cc

pub covered_range : (range : Option Interval) → is_some range ≡ true →
    (found : Interval) × (range ≡ Some found)
covered_range None h = cc
covered_range (Some range) h = (range, refl)

-- below a covered step to a finer unit stands a covered node
pub covered_below : (inputs : List Column) (plan : Plan) (numbers : Numbers) (e : Tree)
    (target : DataType) (options : CastOptions) (m : ℕ) →
    IsStep (facts inputs e) options target (Finer m) →
    rule_holds inputs plan numbers (Cast e target options) ≡ true →
    is_covered plan (number_at numbers) ≡ true →
    is_covered plan (number_at (below numbers)) ≡ true
covered_below inputs plan numbers e target options m step holds covered =
    by_bound (interval_in plan (number_at (below numbers))) refl
  where
    kept : (bound : Option Interval) → interval_in plan (number_at (below numbers)) ≡ bound →
        (range : Interval)
        × (is_image_inside range (image_by (formula_for inputs (Cast e target options))
        (bound_by bound (dtype_of inputs e)) (bound_by bound (dtype_of inputs e))) ≡ true)
    kept bound is =
        let range = covered_range (interval_in plan (number_at numbers)) covered in
        let whole =
        sym (ap (keeps_rule inputs plan numbers (Cast e target options)) range.1) ∙ holds in
        let inside = and_parts (fits_type (dtype_of inputs (Cast e target options)) range.0)
        (is_kept_within inputs plan numbers (Cast e target options) range.0) whole in (
          range.0,
          ap (λ b. is_image_inside range.0 (image_by (formula_for inputs (Cast e target options))
              (bound_by b (dtype_of inputs e)) (bound_by b (dtype_of inputs e))))
              (sym is) ∙ inside.1,
        )

    by_bound : (bound : Option Interval) → interval_in plan (number_at (below numbers)) ≡ bound →
        is_covered plan (number_at (below numbers)) ≡ true
    by_bound (Some range) is = ap is_some is
    by_bound None is =
        let found = kept None is in
        let settled = (unit_rule step.from target (Finer m) step.pair).settled in
        let none : image_by (cast_formula (cast_rule_for (dtype_of inputs e) target options))
        (bound_by None (dtype_of inputs e)) (bound_by None (dtype_of inputs e)) ≡ None =
        rw (step.typed, step.free, settled) (wide_step step.from target m step.pair) in
        cc (ap (is_image_inside found.0) (sym none) ∙ found.1)

-- a covered cast loses no slot
pub covered_keeps : (inputs : List Column) (plan : Plan) (numbers : Numbers) (e : Tree)
    (target : DataType) (options : CastOptions) →
    IsKeptBy inputs plan (numbers, Cast e target options) →
    is_covered plan (number_at numbers) ≡ true → (row : ℕ) (x : Value) →
    slot_at inputs e row ≡ Some x →
    (y : Value) × (slot_at inputs (Cast e target options) row ≡ Some y)
covered_keeps inputs plan numbers e target options keeps covered row x there =
    let range = covered_range (interval_in plan (number_at numbers)) covered in
    let kept = (keeps range.0 range.1).exact row x x (λ i. (there i, there i)) in
    (whole kept.0, kept.1)

-- ---- lists

pub All-left : {X : Type 0} (P : X → Type 0) (xs ys : List X) → All P (xs ++ ys) → All P xs
All-left P xs ys all k d lt =
    subst P (get_or_append_left xs ys d k lt) (all k d (omega (arith, length-append xs ys)))

pub All-right : {X : Type 0} (P : X → Type 0) (xs ys : List X) → All P (xs ++ ys) → All P ys
All-right P [] ys all = all
All-right P (x ∷ xs) ys all = All-right P xs ys (All-tail P x (xs ++ ys) all)

pub All-last : {X : Type 0} (P : X → Type 0) (xs : List X) (x : X) → All P (xs ++ x ∷ []) → P x
All-last P xs x all = All-right P xs (x ∷ []) all 0 x (omega arith)

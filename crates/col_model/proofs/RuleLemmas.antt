-- Each rule of the tables gives values of its answer's type.
use Rattle.std.proofs.Common.{◌≡◌, ℕ, ℤ, pos, ◌+ℤ◌, ◌-ℤ◌, List, Bool, true, false, Option, Some, None, if◌then◌else◌, refl, sym, ap, ◌∙◌, subst, arith}
use Rattle.std.specs.Prelude.{unwrap_or}
use Rattle.std.specs.Option.{option_or}
use Rattle.std.specs.Int.{int_min, int_max}
use Rattle.std.proofs.lemmas.Int.{ints, clamps}
use Rattle.std.proofs.lemmas.Bool.{and_from, and_parts, false≢true}
use Rattle.col_types.specs.DataType.{is_built, same_type, same_zone}
use Rattle.col_types.specs.declared.data_type.DataType.{DataType, Date, Datetime, Duration, Time, Int64}
use Rattle.col_types.specs.declared.time_unit.TimeUnit.{TimeUnit}
use Rattle.col_types.specs.declared.time_unit.TimeUnit.TheVariants.{Nanoseconds, Microseconds, Milliseconds}
use Rattle.col_types.specs.declared.cast_options.CastOptions.{CastOptions}
use Rattle.col_types.specs.declared.cast_options.CastOptions.TheVariants.{Strict, NonStrict, Overflowing}
use Rattle.col_types.specs.declared.operator.BinOp.{BinOp}
use Rattle.col_types.specs.declared.operator.BinOp.TheVariants as ops
use Rattle.col_types.specs.declared.operator.ScalarOp.{ScalarOp}
use Rattle.col_types.specs.declared.operator.ScalarOp.TheVariants as scalar_ops
use Rattle.col_model.specs.Arithmetic.{Interval, is_within, is_inside}
use Rattle.col_model.specs.Value.{whole}
use Rattle.col_model.specs.Column.{values_of, is_value_in}
use Rattle.col_model.specs.Formula.{Formula, X, spanned}
use Rattle.col_model.specs.IntervalRoom.{only}
use Rattle.col_model.specs.CastTable.{CastRule, cast_rule, rising}
use Rattle.col_model.specs.UnitChange.{datetime_in_unit}
use Rattle.col_model.specs.OperatorTable.{OperatorRule, listed_rule, temporal_rule, number_rule, sum_rule, difference_rule, product_rule, quotient_rule, rest_rule}
use Rattle.col_model.specs.ScalarTable.{scalar_right_rule, scalar_left_rule, is_scalar_of, unit_change_rule}
use Rattle.col_model.specs.RuleLaws.{is_value_of, GivesValues, CastsGiveValues, RuleGivesValues, OperatorsGiveValues, RightScalarsGiveValues, LeftScalarsGiveValues, UnitChangesGiveValues}
use Rattle.col_model.proofs.WithinLemmas.{IsWithin, is_within-true, within_from, inside_from}
use Rattle.col_model.proofs.ReachLemmas.{reach, rest_reach, reached}

-- ---- types of which columns exist

pub by_built : (P : DataType → Type 0) → P Date → ((u : TimeUnit) (z : Option (List ℕ)) → P (Datetime u z)) → ((u : TimeUnit) → P (Duration u)) → P Time → P Int64
    → (d : DataType) → is_built d ≡ true → P d
by_built P date moment length time int64 Date h = date
by_built P date moment length time int64 (Datetime u z) h = moment u z
by_built P date moment length time int64 (Duration u) h = length u
by_built P date moment length time int64 Time h = time
by_built P date moment length time int64 Int64 h = int64
by_built P date moment length time int64 _ h = absurd (false≢true h)

-- the values of such a type
abbrev type_values : DataType → Interval
type_values d = unwrap_or (values_of d) (only (pos 0))

values_are : (d : DataType) → is_built d ≡ true → values_of d ≡ Some (type_values d)
values_are = by_built (λ d. values_of d ≡ Some (type_values d)) refl (λ u z. refl) (λ u. refl) refl refl

value_within : (d : DataType) (x : ℤ) → is_built d ≡ true → is_value_of d x ≡ true → IsWithin (type_values d) x
value_within d x built h = within_from (type_values d) x (ap (λ o. is_value_in o (whole x)) (sym (values_are d built)) ∙ h)

within_value : (d : DataType) (x : ℤ) → is_built d ≡ true → IsWithin (type_values d) x → is_value_of d x ≡ true
within_value d x built h = ap (λ o. is_value_in o (whole x)) (values_are d built) ∙ is_within-true (type_values d) x h

-- ---- formulas

-- whether the values that are valid lie in the range
abbrev stays_in : Interval → Option Interval → Bool
stays_in range None = false
stays_in range (Some inner) = is_inside range inner

stays : (range : Interval) (o : Option Interval) → stays_in range o ≡ true → (inner : Interval) × (o ≡ Some inner) × (is_inside range inner ≡ true)
stays range None h = absurd (false≢true h)
stays range (Some inner) h = (inner, refl, h)

gives : (left right answer : DataType) (f : Formula) → is_built left ≡ true → is_built right ≡ true → is_built answer ≡ true
    → stays_in (type_values answer) (reach f (type_values left) (type_values right)) ≡ true → GivesValues left right answer f
gives left right answer f l r a h x y v hx hy e =
    let s = stays (type_values answer) (reach f (type_values left) (type_values right)) h in
    let parts = and_parts (is_within (type_values answer) s.0.low) (is_within (type_values answer) s.0.high) s.2 in
    let w = reached f (type_values left) (type_values right) s.0 x y v (value_within left x l hx) (value_within right y r hy) e s.1 in
    within_value answer v a (inside_from (type_values answer) s.0 v parts.0 parts.1 w)

-- ---- casts

abbrev CastStays : Option CastRule → DataType → DataType → Type 0
CastStays None from target = Unit {0}
CastStays (Some rule) from target = stays_in (type_values target) (reach rule.formula (type_values from) (type_values from)) ≡ true

by_unit : (P : TimeUnit → Type 0) → P Nanoseconds → P Microseconds → P Milliseconds → (u : TimeUnit) → P u
by_unit P n u m Nanoseconds = n
by_unit P n u m Microseconds = u
by_unit P n u m Milliseconds = m

moment_stays : (u v : TimeUnit) → stays_in (type_values (Datetime v None)) (reach (datetime_in_unit u v X) (type_values (Datetime u None)) (type_values (Datetime u None))) ≡ true
moment_stays Nanoseconds Nanoseconds = refl
moment_stays Nanoseconds Microseconds = refl
moment_stays Nanoseconds Milliseconds = refl
moment_stays Microseconds Nanoseconds = refl
moment_stays Microseconds Microseconds = refl
moment_stays Microseconds Milliseconds = refl
moment_stays Milliseconds Nanoseconds = refl
moment_stays Milliseconds Microseconds = refl
moment_stays Milliseconds Milliseconds = refl

moments_stay : (u v : TimeUnit) (y z : Option (List ℕ)) (same : Bool) → CastStays (if same then rising X else rising (datetime_in_unit u v X)) (Datetime u y) (Datetime v z)
moments_stay u v y z true = refl
moments_stay u v y z false = moment_stays u v

day_stays : (u : TimeUnit) (y : Option (List ℕ)) (o : CastOptions) → CastStays (cast_rule (Datetime u y) Date o) (Datetime u y) Date
day_stays u y Strict = refl
day_stays u y NonStrict = refl
day_stays u y Overflowing = refl

length_stays : (u v : TimeUnit) (o : CastOptions) → CastStays (cast_rule (Duration u) (Duration v) o) (Duration u) (Duration v)
length_stays Nanoseconds Nanoseconds o = refl
length_stays Nanoseconds Microseconds o = refl
length_stays Nanoseconds Milliseconds o = refl
length_stays Microseconds Nanoseconds o = refl
length_stays Microseconds Microseconds o = refl
length_stays Microseconds Milliseconds o = refl
length_stays Milliseconds Nanoseconds o = refl
length_stays Milliseconds Microseconds o = refl
length_stays Milliseconds Milliseconds o = refl

time_stays : (o : CastOptions) (u : TimeUnit) (y : Option (List ℕ)) → CastStays (cast_rule (Datetime u y) Time o) (Datetime u y) Time
unfolding spanned
time_stays o Nanoseconds y = refl
time_stays o Microseconds y = refl
time_stays o Milliseconds y = refl

by_option : (P : CastOptions → Type 0) → P Strict → P NonStrict → P Overflowing → (o : CastOptions) → P o
by_option P s n w Strict = s
by_option P s n w NonStrict = n
by_option P s n w Overflowing = w

-- what a cast of any type gives as a 64-bit integer, and what such an integer gives in any type
abbrev LeadsToInt64 : DataType → CastOptions → Type 0
LeadsToInt64 from o = CastStays (cast_rule from Int64 o) from Int64

abbrev LeadsFromInt64 : DataType → CastOptions → Type 0
LeadsFromInt64 target o = CastStays (cast_rule Int64 target o) Int64 target

cast_stays : (o : CastOptions) (from : DataType) → is_built from ≡ true → (target : DataType) → is_built target ≡ true → CastStays (cast_rule from target o) from target
cast_stays o =
    by_built (λ from. (target : DataType) → is_built target ≡ true → CastStays (cast_rule from target o) from target)
    (by_built (λ target. CastStays (cast_rule Date target o) Date target) refl (λ v z. refl) (λ v. tt) tt
    (by_option (LeadsToInt64 Date) refl refl refl o))
    (λ u y. by_built (λ target. CastStays (cast_rule (Datetime u y) target o) (Datetime u y) target)
    (day_stays u y o) (λ v z. moments_stay u v y z (same_type (Datetime u y) (Datetime v z))) (λ v. tt)
    (time_stays o u y) (by_option (LeadsToInt64 (Datetime u y)) refl refl refl o))
    (λ u. by_built (λ target. CastStays (cast_rule (Duration u) target o) (Duration u) target) tt (λ v z. tt) (λ v. length_stays u v o) tt
    (by_option (LeadsToInt64 (Duration u)) refl refl refl o))
    (by_built (λ target. CastStays (cast_rule Time target o) Time target) tt (λ v z. tt)
    (λ v. by_unit (λ w. CastStays (cast_rule Time (Duration w) o) Time (Duration w)) refl refl refl v) refl
    (by_option (LeadsToInt64 Time) refl refl refl o))
    (by_built (λ target. CastStays (cast_rule Int64 target o) Int64 target) (by_option (LeadsFromInt64 Date) refl refl refl o)
    (λ v z. by_option (LeadsFromInt64 (Datetime v z)) refl refl refl o) (λ v. by_option (LeadsFromInt64 (Duration v)) refl refl refl o)
    (by_option (LeadsFromInt64 Time) refl refl refl o) refl)

pub casts_give_values : CastsGiveValues
casts_give_values from target options rule f t e =
    let P : Option CastRule → Type 0 = λ r. CastStays r from target in
    gives from from target rule.formula f f t (subst P e (cast_stays options from f target t))

-- ---- operators

abbrev RuleStays : Option OperatorRule → DataType → DataType → Type 0
RuleStays None left right = Unit {0}
RuleStays (Some rule) left right =
    (is_built rule.dtype ≡ true) × (stays_in (type_values rule.dtype) (reach rule.formula (type_values left) (type_values right)) ≡ true)

rule_gives : (left right : DataType) (o : Option OperatorRule) (rule : OperatorRule) → is_built left ≡ true → is_built right ≡ true → RuleStays o left right → o ≡ Some rule → RuleGivesValues left right rule
rule_gives left right o rule l r h e =
    let P : Option OperatorRule → Type 0 = λ q. RuleStays q left right in
    let s = subst P e h in
    record { built = s.0; values = gives left right rule.dtype rule.formula l r s.0 s.1 }

sum_stays : (l : DataType) → is_built l ≡ true → (r : DataType) → is_built r ≡ true → RuleStays (sum_rule l r) l r
sum_stays =
    by_built (λ l. (r : DataType) → is_built r ≡ true → RuleStays (sum_rule l r) l r)
    (by_built (λ r. RuleStays (sum_rule Date r) Date r) tt (λ v z. tt) (λ v. (refl, refl)) tt tt)
    (λ u y. by_built (λ r. RuleStays (sum_rule (Datetime u y) r) (Datetime u y) r) tt (λ v z. tt) (λ v. (refl, refl)) tt tt)
    (λ u. by_built (λ r. RuleStays (sum_rule (Duration u) r) (Duration u) r) (refl, refl) (λ v z. (refl, refl)) (λ v. (refl, refl)) tt tt)
    (by_built (λ r. RuleStays (sum_rule Time r) Time r) tt (λ v z. tt) (λ v. tt) tt tt)
    (by_built (λ r. RuleStays (sum_rule Int64 r) Int64 r) tt (λ v z. tt) (λ v. tt) tt tt)

if_stays : (c : Bool) (o : Option OperatorRule) (l r : DataType) → RuleStays o l r → RuleStays (if c then o else None) l r
if_stays true o l r h = h
if_stays false o l r h = tt

dates_apart_stay : RuleStays (difference_rule Date Date) Date Date
unfolding spanned
dates_apart_stay = (refl, refl)

difference_stays : (l : DataType) → is_built l ≡ true → (r : DataType) → is_built r ≡ true → RuleStays (difference_rule l r) l r
difference_stays =
    by_built (λ l. (r : DataType) → is_built r ≡ true → RuleStays (difference_rule l r) l r)
    (by_built (λ r. RuleStays (difference_rule Date r) Date r) dates_apart_stay (λ v z. (refl, refl)) (λ v. (refl, refl)) tt tt)
    (λ u y. by_built (λ r. RuleStays (difference_rule (Datetime u y) r) (Datetime u y) r) (refl, refl)
    (λ v z. if_stays (same_zone y z) _ (Datetime u y) (Datetime v z) (refl, refl)) (λ v. (refl, refl)) tt tt)
    (λ u. by_built (λ r. RuleStays (difference_rule (Duration u) r) (Duration u) r) tt (λ v z. tt) (λ v. (refl, refl)) tt tt)
    (by_built (λ r. RuleStays (difference_rule Time r) Time r) tt (λ v z. tt) (λ v. tt) (refl, refl) tt)
    (by_built (λ r. RuleStays (difference_rule Int64 r) Int64 r) tt (λ v z. tt) (λ v. tt) tt tt)

product_stays : (l : DataType) → is_built l ≡ true → (r : DataType) → is_built r ≡ true → RuleStays (product_rule l r) l r
product_stays =
    by_built (λ l. (r : DataType) → is_built r ≡ true → RuleStays (product_rule l r) l r)
    (by_built (λ r. RuleStays (product_rule Date r) Date r) tt (λ v z. tt) (λ v. tt) tt tt)
    (λ u y. by_built (λ r. RuleStays (product_rule (Datetime u y) r) (Datetime u y) r) tt (λ v z. tt) (λ v. tt) tt tt)
    (λ u. by_built (λ r. RuleStays (product_rule (Duration u) r) (Duration u) r) tt (λ v z. tt) (λ v. tt) tt (refl, refl))
    (by_built (λ r. RuleStays (product_rule Time r) Time r) tt (λ v z. tt) (λ v. tt) tt tt)
    (by_built (λ r. RuleStays (product_rule Int64 r) Int64 r) tt (λ v z. tt) (λ v. (refl, refl)) tt tt)

quotient_stays : (l : DataType) → is_built l ≡ true → (r : DataType) → is_built r ≡ true → RuleStays (quotient_rule l r) l r
quotient_stays =
    by_built (λ l. (r : DataType) → is_built r ≡ true → RuleStays (quotient_rule l r) l r)
    (by_built (λ r. RuleStays (quotient_rule Date r) Date r) tt (λ v z. tt) (λ v. tt) tt tt)
    (λ u y. by_built (λ r. RuleStays (quotient_rule (Datetime u y) r) (Datetime u y) r) tt (λ v z. tt) (λ v. tt) tt tt)
    (λ u. by_built (λ r. RuleStays (quotient_rule (Duration u) r) (Duration u) r) tt (λ v z. tt) (λ v. tt) tt (refl, refl))
    (by_built (λ r. RuleStays (quotient_rule Time r) Time r) tt (λ v z. tt) (λ v. tt) tt tt)
    (by_built (λ r. RuleStays (quotient_rule Int64 r) Int64 r) tt (λ v z. tt) (λ v. tt) tt tt)

rests_stay : (u v : TimeUnit) → RuleStays (rest_rule (Duration u) (Duration v)) (Duration u) (Duration v)
rests_stay Nanoseconds Nanoseconds = (refl, refl)
rests_stay Nanoseconds Microseconds = (refl, refl)
rests_stay Nanoseconds Milliseconds = (refl, refl)
rests_stay Microseconds Nanoseconds = (refl, refl)
rests_stay Microseconds Microseconds = (refl, refl)
rests_stay Microseconds Milliseconds = (refl, refl)
rests_stay Milliseconds Nanoseconds = (refl, refl)
rests_stay Milliseconds Microseconds = (refl, refl)
rests_stay Milliseconds Milliseconds = (refl, refl)

rest_stays : (l : DataType) → is_built l ≡ true → (r : DataType) → is_built r ≡ true → RuleStays (rest_rule l r) l r
rest_stays =
    by_built (λ l. (r : DataType) → is_built r ≡ true → RuleStays (rest_rule l r) l r)
    (by_built (λ r. RuleStays (rest_rule Date r) Date r) tt (λ v z. tt) (λ v. tt) tt tt)
    (λ u y. by_built (λ r. RuleStays (rest_rule (Datetime u y) r) (Datetime u y) r) tt (λ v z. tt) (λ v. tt) tt tt)
    (λ u. by_built (λ r. RuleStays (rest_rule (Duration u) r) (Duration u) r) tt (λ v z. tt) (λ v. rests_stay u v) tt tt)
    (by_built (λ r. RuleStays (rest_rule Time r) Time r) tt (λ v z. tt) (λ v. tt) tt tt)
    (by_built (λ r. RuleStays (rest_rule Int64 r) Int64 r) tt (λ v z. tt) (λ v. tt) tt tt)

temporal_stays : (op : BinOp) (l r : DataType) → is_built l ≡ true → is_built r ≡ true → RuleStays (temporal_rule op l r) l r
temporal_stays ops.Add l r a b = sum_stays l a r b
temporal_stays ops.Sub l r a b = difference_stays l a r b
temporal_stays ops.Mul l r a b = product_stays l a r b
temporal_stays ops.Div l r a b = quotient_stays l a r b
temporal_stays ops.Rem l r a b = rest_stays l a r b

integers_stay : (op : BinOp) → RuleStays (number_rule op Int64 Int64) Int64 Int64
integers_stay ops.Add = (refl, refl)
integers_stay ops.Sub = (refl, refl)
integers_stay ops.Mul = (refl, refl)
integers_stay ops.Div = (refl, refl)
integers_stay ops.Rem = (refl, refl)

number_stays : (op : BinOp) (l : DataType) → is_built l ≡ true → (r : DataType) → is_built r ≡ true → RuleStays (number_rule op l r) l r
number_stays op =
    by_built (λ l. (r : DataType) → is_built r ≡ true → RuleStays (number_rule op l r) l r)
    (by_built (λ r. RuleStays (number_rule op Date r) Date r) tt (λ v z. tt) (λ v. tt) tt tt)
    (λ u y. by_built (λ r. RuleStays (number_rule op (Datetime u y) r) (Datetime u y) r) tt (λ v z. tt) (λ v. tt) tt tt)
    (λ u. by_built (λ r. RuleStays (number_rule op (Duration u) r) (Duration u) r) tt (λ v z. tt) (λ v. tt) tt tt)
    (by_built (λ r. RuleStays (number_rule op Time r) Time r) tt (λ v z. tt) (λ v. tt) tt tt)
    (by_built (λ r. RuleStays (number_rule op Int64 r) Int64 r) tt (λ v z. tt) (λ v. tt) tt (integers_stay op))

or_stays : (o p : Option OperatorRule) (l r : DataType) → RuleStays o l r → RuleStays p l r → RuleStays (option_or o p) l r
or_stays None p l r a b = b
or_stays (Some rule) p l r a b = a

listed_stays : (op : BinOp) (l r : DataType) → is_built l ≡ true → is_built r ≡ true → RuleStays (listed_rule op l r) l r
listed_stays op l r a b =
    or_stays (temporal_rule op l r) (number_rule op l r) l r (temporal_stays op l r a b) (number_stays op l a r b)

pub operators_give_values : OperatorsGiveValues
operators_give_values op left right rule l r e =
    rule_gives left right (listed_rule op left right) rule l r (listed_stays op left right l r) e

-- ---- integers on a side

-- what an integer of a word leaves lies in the word
rest_of_scalar : (range : Interval) (k : ℤ) → is_within range (pos 0) ≡ true → is_within range k ≡ true → is_inside range (rest_reach (only k)) ≡ true
rest_of_scalar range k zero h =
    let z = within_from range (pos 0) zero in
    let w = within_from range k h in
    and_from _ _
    (is_within-true range (int_min (pos 0) (k +ℤ pos 1)) (record { low = omega (arith, ints, clamps, z.low, w.low); high = omega (arith, ints, clamps, z.high) }))
    (is_within-true range (int_max (pos 0) (k -ℤ pos 1)) (record { low = omega (arith, ints, clamps, z.low); high = omega (arith, ints, clamps, z.high, w.high) }))

-- a type that keeps its own values under a form
abbrev RightStays : ScalarOp → ℤ → DataType → Type 0
RightStays op k d = is_scalar_of d k ≡ true → RuleStays (scalar_right_rule d op k) d d

right_stays : (op : ScalarOp) (k : ℤ) (d : DataType) → is_built d ≡ true → RightStays op k d
right_stays scalar_ops.Add k = by_built (RightStays scalar_ops.Add k) (λ h. (refl, refl)) (λ u z h. (refl, refl)) (λ u h. (refl, refl)) (λ h. (refl, refl)) (λ h. (refl, refl))
right_stays scalar_ops.Sub k = by_built (RightStays scalar_ops.Sub k) (λ h. (refl, refl)) (λ u z h. (refl, refl)) (λ u h. (refl, refl)) (λ h. (refl, refl)) (λ h. (refl, refl))
right_stays scalar_ops.Mul k = by_built (RightStays scalar_ops.Mul k) (λ h. (refl, refl)) (λ u z h. (refl, refl)) (λ u h. (refl, refl)) (λ h. (refl, refl)) (λ h. (refl, refl))
right_stays scalar_ops.Div k = by_built (RightStays scalar_ops.Div k) (λ h. (refl, refl)) (λ u z h. (refl, refl)) (λ u h. (refl, refl)) (λ h. (refl, refl)) (λ h. (refl, refl))
right_stays scalar_ops.TruncDiv k = by_built (RightStays scalar_ops.TruncDiv k) (λ h. (refl, refl)) (λ u z h. (refl, refl)) (λ u h. (refl, refl)) (λ h. (refl, refl)) (λ h. (refl, refl))
right_stays scalar_ops.Rem k =
    by_built (RightStays scalar_ops.Rem k) (λ h. (refl, rest_of_scalar (type_values Date) k refl h))
    (λ u z h. (refl, rest_of_scalar (type_values (Datetime u z)) k refl h))
    (λ u h. (refl, rest_of_scalar (type_values (Duration u)) k refl h)) (λ h. (refl, refl))
    (λ h. (refl, rest_of_scalar (type_values Int64) k refl h))

pub right_scalars_give_values : RightScalarsGiveValues
right_scalars_give_values dtype op k rule d h e =
    rule_gives dtype dtype (scalar_right_rule dtype op k) rule d d (right_stays op k dtype d h) e

abbrev LeftStays : ℤ → BinOp → DataType → Type 0
LeftStays k op d = RuleStays (scalar_left_rule k op d) d d

left_stays : (k : ℤ) (op : BinOp) (d : DataType) → is_built d ≡ true → LeftStays k op d
left_stays k ops.Add = by_built (LeftStays k ops.Add) (refl, refl) (λ u z. (refl, refl)) (λ u. (refl, refl)) (refl, refl) (refl, refl)
left_stays k ops.Sub = by_built (LeftStays k ops.Sub) (refl, refl) (λ u z. (refl, refl)) (λ u. (refl, refl)) (refl, refl) (refl, refl)
left_stays k ops.Mul = by_built (LeftStays k ops.Mul) (refl, refl) (λ u z. (refl, refl)) (λ u. (refl, refl)) (refl, refl) (refl, refl)
left_stays k ops.Div = by_built (LeftStays k ops.Div) (refl, refl) (λ u z. (refl, refl)) (λ u. (refl, refl)) (refl, refl) (refl, refl)
left_stays k ops.Rem = by_built (LeftStays k ops.Rem) (refl, refl) (λ u z. (refl, refl)) (λ u. (refl, refl)) (refl, refl) (refl, refl)

pub left_scalars_give_values : LeftScalarsGiveValues
left_scalars_give_values k op dtype rule d e =
    rule_gives dtype dtype (scalar_left_rule k op dtype) rule d d (left_stays k op dtype d) e

-- ---- changes of a unit

moment_changes : (v u : TimeUnit) (y : Option (List ℕ)) → RuleStays (unit_change_rule (Datetime u y) v) (Datetime u y) (Datetime u y)
moment_changes v u y =
    by_unit (λ w. RuleStays (unit_change_rule (Datetime w y) v) (Datetime w y) (Datetime w y))
    (by_unit (λ t. RuleStays (unit_change_rule (Datetime Nanoseconds y) t) (Datetime Nanoseconds y) (Datetime Nanoseconds y)) (refl, refl) (refl, refl) (refl, refl) v)
    (by_unit (λ t. RuleStays (unit_change_rule (Datetime Microseconds y) t) (Datetime Microseconds y) (Datetime Microseconds y)) (refl, refl) (refl, refl) (refl, refl) v)
    (by_unit (λ t. RuleStays (unit_change_rule (Datetime Milliseconds y) t) (Datetime Milliseconds y) (Datetime Milliseconds y)) (refl, refl) (refl, refl) (refl, refl) v)
    u

length_changes : (v u : TimeUnit) → RuleStays (unit_change_rule (Duration u) v) (Duration u) (Duration u)
length_changes v u =
    by_unit (λ w. RuleStays (unit_change_rule (Duration w) v) (Duration w) (Duration w))
    (by_unit (λ t. RuleStays (unit_change_rule (Duration Nanoseconds) t) (Duration Nanoseconds) (Duration Nanoseconds)) (refl, refl) (refl, refl) (refl, refl) v)
    (by_unit (λ t. RuleStays (unit_change_rule (Duration Microseconds) t) (Duration Microseconds) (Duration Microseconds)) (refl, refl) (refl, refl) (refl, refl) v)
    (by_unit (λ t. RuleStays (unit_change_rule (Duration Milliseconds) t) (Duration Milliseconds) (Duration Milliseconds)) (refl, refl) (refl, refl) (refl, refl) v)
    u

unit_stays : (v : TimeUnit) (d : DataType) → is_built d ≡ true → RuleStays (unit_change_rule d v) d d
unit_stays v = by_built (λ d. RuleStays (unit_change_rule d v) d d) tt (λ u y. moment_changes v u y) (λ u. length_changes v u) tt tt

pub unit_changes_give_values : UnitChangesGiveValues
unit_changes_give_values dtype unit rule d e =
    rule_gives dtype dtype (unit_change_rule dtype unit) rule d d (unit_stays unit dtype d) e

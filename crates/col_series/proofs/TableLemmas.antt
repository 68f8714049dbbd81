-- The rules of casts between types of which columns exist.
use Rattle.std.proofs.Common.{◌≡◌, ℕ, ℤ, true, false, List, [], ◌∷◌, map, Option, Some, None, refl, sym, ap, subst, ◌∙◌}
use Rattle.std.specs.List.{list_all}
use Rattle.std.specs.Option.{option_map}
use Rattle.std.proofs.lemmas.Bool.{and_parts, and_from}
use Rattle.col_types.specs.declared.data_type.DataType.{DataType, Date, Datetime, Duration, Time, Int64}
use Rattle.col_types.specs.declared.time_unit.TimeUnit.{TimeUnit}
use Rattle.col_types.specs.declared.cast_options.CastOptions.{CastOptions}
use Rattle.col_types.specs.declared.cast_options.CastOptions.TheVariants.{Strict, NonStrict}
use Rattle.col_model.specs.Value.{Value, Flat, Nested, Whole, Bytes, on_slot, integer_slot}
use Rattle.col_model.specs.Column.{is_built_type, is_slot_of, physical_word}
use Rattle.col_model.specs.Formula.{Formula, X, value_of}
use Rattle.col_model.specs.CastTable.{CastRule, cast_rule, is_boolean}
use Rattle.col_model.specs.RuleLaws.{GivesValues}
use Rattle.col_model.proofs.RuleLemmas.{casts_give_values}
use Rattle.col_cast.specs.Casts.{Ruled, is_plain, kept_in, rule_in, rule_or_same, ruled, ruled_to, word_of}
use Rattle.col_types.specs.DataType.{is_built}
use Rattle.col_series.proofs.LawLemmas.{kept_slots}
use Rattle.col_series.proofs.TypeLemmas.{by_built_type, built_settled}

-- a strict cast has the formula of one that isn't
strict-table : (from target : DataType) → is_built_type from ≡ true → is_built_type target ≡ true → cast_rule from target NonStrict ≡ cast_rule from target Strict
strict-table from target h g = by_built_type (λ f. cast_rule f target NonStrict ≡ cast_rule f target Strict) date moment length time int64 from h
  where
    date : cast_rule Date target NonStrict ≡ cast_rule Date target Strict
    date = by_built_type (λ t. cast_rule Date t NonStrict ≡ cast_rule Date t Strict) refl (λ unit zone. refl) (λ unit. refl) refl refl target g

    moment : (unit : TimeUnit) (zone : Option (List ℕ)) → cast_rule (Datetime unit zone) target NonStrict ≡ cast_rule (Datetime unit zone) target Strict
    moment unit zone = by_built_type (λ t. cast_rule (Datetime unit zone) t NonStrict ≡ cast_rule (Datetime unit zone) t Strict) refl (λ other name. refl) (λ other. refl) refl refl target g

    length : (unit : TimeUnit) → cast_rule (Duration unit) target NonStrict ≡ cast_rule (Duration unit) target Strict
    length unit = by_built_type (λ t. cast_rule (Duration unit) t NonStrict ≡ cast_rule (Duration unit) t Strict) refl (λ other name. refl) (λ other. refl) refl refl target g

    time : cast_rule Time target NonStrict ≡ cast_rule Time target Strict
    time = by_built_type (λ t. cast_rule Time t NonStrict ≡ cast_rule Time t Strict) refl (λ unit zone. refl) (λ unit. refl) refl refl target g

    int64 : cast_rule Int64 target NonStrict ≡ cast_rule Int64 target Strict
    int64 = by_built_type (λ t. cast_rule Int64 t NonStrict ≡ cast_rule Int64 t Strict) refl (λ unit zone. refl) (λ unit. refl) refl refl target g

-- ---- a rule that was chosen

-- the rule for a target that leaves nothing open
settled : (options : CastOptions) (from target : DataType) (rule : Option Ruled) → is_built_type target ≡ true → ruled from target options ≡ rule → ruled_to from target options ≡ rule
settled options from target rule g e = subst (λ (t : DataType). ruled_to from t options ≡ rule) (built_settled from target g) e

abbrev pub of-types : DataType → DataType → CastOptions → Ruled
of-types from to options = record { from = from; to = to; options = options }

same-ruled : (from to : DataType) (options : CastOptions) (t : Option CastRule) (rule : Ruled) → option_map (λ (r : CastRule). of-types from to options) t ≡ Some rule → of-types from to options ≡ rule
same-ruled from to options None rule e = cc
same-ruled from to options (Some r) rule e = cc

is-listed : (from to : DataType) (options : CastOptions) (t : Option CastRule) (rule : Ruled) → option_map (λ (r : CastRule). of-types from to options) t ≡ Some rule → t ≡ Some (rule_or_same t)
is-listed from to options None rule e = cc
is-listed from to options (Some r) rule e = refl

none-listed : (from to : DataType) (options : CastOptions) (t : Option CastRule) → option_map (λ (r : CastRule). of-types from to options) t ≡ None → t ≡ None
none-listed from to options None e = refl
none-listed from to options (Some r) e = cc

-- it has these types
pub chosen : (options : CastOptions) (from target : DataType) (rule : Ruled) → is_built_type target ≡ true → ruled from target options ≡ Some rule → of-types from target options ≡ rule
chosen options from target rule g e = same-ruled from target options (cast_rule from target options) rule (settled options from target (Some rule) g e)

pub chosen-from : (options : CastOptions) (from target : DataType) (rule : Ruled) → is_built_type target ≡ true → ruled from target options ≡ Some rule → from ≡ rule.from
chosen-from options from target rule g e = ap (λ (q : Ruled). q.from) (chosen options from target rule g e)

pub chosen-to : (options : CastOptions) (from target : DataType) (rule : Ruled) → is_built_type target ≡ true → ruled from target options ≡ Some rule → target ≡ rule.to
chosen-to options from target rule g e = ap (λ (q : Ruled). q.to) (chosen options from target rule g e)

-- it is the table's
pub chosen-rule : (options : CastOptions) (from target : DataType) (rule : Ruled) → is_built_type from ≡ true → is_built_type target ≡ true → ruled from target options ≡ Some rule
    → cast_rule from target options ≡ Some (rule_in rule)
chosen-rule options from target rule h g e =
    subst (λ (q : Ruled). cast_rule from target options ≡ Some (rule_in q)) (chosen options from target rule g e)
    (is-listed from target options (cast_rule from target options) rule (settled options from target (Some rule) g e))

-- none was chosen where the table has none
pub chosen-none : (options : CastOptions) (from target : DataType) → is_built_type from ≡ true → is_built_type target ≡ true → ruled from target options ≡ None
    → cast_rule from target options ≡ None
chosen-none options from target h g e =
    none-listed from target options (cast_rule from target options) (settled options from target None g e)

-- a strict one makes null of what is lost
pub chosen-kept : (options : CastOptions) (from target : DataType) (rule : Ruled) → is_built_type from ≡ true → is_built_type target ≡ true → ruled from target options ≡ Some rule
    → options ≡ Strict → kept_in rule ≡ (rule_in rule).formula
chosen-kept options from target rule h g e strict =
    subst (λ (q : Ruled). kept_in q ≡ (rule_in q).formula) (chosen options from target rule g e)
    (ap (λ (t : Option CastRule). (rule_or_same t).formula)
    (strict-table from target h g ∙ ap (cast_rule from target) (sym strict)))

-- ---- words

-- the word of such a type is that which stores it
pub built-word : (dtype : DataType) → is_built_type dtype ≡ true → word_of dtype ≡ physical_word dtype
built-word = by_built_type (λ dtype. word_of dtype ≡ physical_word dtype) refl (λ unit zone. refl) (λ unit. refl) refl refl

pub built-counted : (dtype : DataType) → is_built_type dtype ≡ true → is_boolean dtype ≡ false
built-counted = by_built_type (λ dtype. is_boolean dtype ≡ false) refl (λ unit zone. refl) (λ unit. refl) refl refl

pub plain-is : (formula : Formula) → is_plain formula ≡ true → formula ≡ X
plain-is X h = refl
plain-is formula h = cc

-- ---- values

-- a formula that gives values of a type gives slots of it
given-slot : (from target : DataType) (formula : Formula) (slot : Option Value) → GivesValues from from target formula → is_slot_of from slot ≡ true
    → is_slot_of target (on_slot (λ x. value_of formula x x) slot) ≡ true
given-slot from target formula None gives h = refl
given-slot from target formula (Some (Flat (Whole x))) gives h = go (value_of formula x x) refl
  where
    go : (value : Option ℤ) → value_of formula x x ≡ value → is_slot_of target (integer_slot value) ≡ true
    go None e = refl
    go (Some v) e = gives x x v h h e
given-slot from target formula (Some (Flat (Bytes b))) gives h = refl
given-slot from target formula (Some (Nested leaves)) gives h = refl

given-slots : (from target : DataType) (formula : Formula) (slots : List (Option Value)) → GivesValues from from target formula → list_all (is_slot_of from) slots ≡ true
    → list_all (is_slot_of target) (map (on_slot (λ x. value_of formula x x)) slots) ≡ true
given-slots from target formula [] gives h = refl
given-slots from target formula (slot ∷ slots) gives h =
    let parts = and_parts _ _ h in
    and_from _ _ (given-slot from target formula slot gives parts.0) (given-slots from target formula slots gives parts.1)

built_is : (dtype : DataType) → is_built_type dtype ≡ true → is_built dtype ≡ true
built_is dtype h = (and_parts (is_built dtype) _ h).0

-- so does a rule that was chosen
pub chosen-slots : (options : CastOptions) (from target : DataType) (rule : Ruled) (slots : List (Option Value)) → is_built_type from ≡ true → is_built_type target ≡ true
    → ruled from target options ≡ Some rule → list_all (is_slot_of from) slots ≡ true
    → list_all (is_slot_of target) (map (on_slot (λ x. value_of (rule_in rule).formula x x)) slots) ≡ true
chosen-slots options from target rule slots h g e fit =
    given-slots from target (rule_in rule).formula slots (casts_give_values from target options (rule_in rule) (built_is from h) (built_is target g) (chosen-rule options from target rule h g e)) fit

-- and one that keeps each integer leaves slots that the target has
pub plain-slots : (options : CastOptions) (from target : DataType) (rule : Ruled) (slots : List (Option Value)) → is_built_type from ≡ true → is_built_type target ≡ true
    → ruled from target options ≡ Some rule → (rule_in rule).formula ≡ X → list_all (is_slot_of from) slots ≡ true → list_all (is_slot_of target) slots ≡ true
plain-slots options from target rule slots h g e plain fit =
    subst (λ (l : List (Option Value)). list_all (is_slot_of target) l ≡ true) (kept_slots from slots fit)
    (subst (λ (f : Formula). list_all (is_slot_of target) (map (on_slot (λ x. value_of f x x)) slots) ≡ true) plain
    (chosen-slots options from target rule slots h g e fit))

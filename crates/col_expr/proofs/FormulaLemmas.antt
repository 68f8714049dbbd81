-- The slots of nodes as formulas on their operands' slots, and that they are values of their types.
use Rattle.std.proofs.Common.{◌≡◌, ℕ, ℤ, zero, suc, List, [], ◌∷◌, Bool, true, false, Option, Some, None, if◌then◌else◌, refl, sym, ap, ◌∙◌, subst}
use Rattle.std.specs.Prelude.{slice_get, slice_index_or, not, ◌||◌}
use Rattle.std.specs.List.{All, list_all}
use Rattle.std.specs.Option.{option_map, option_and_then, ok_or}
use Rattle.std.specs.Result.{result_ok}
use Rattle.std.proofs.lemmas.Bool.{and_parts, false≢true}
use Rattle.std.proofs.lemmas.List.Elements.{All-head, All-tail}
use Rattle.col_types.specs.DataType.{is_built, is_column_type, holds_integers, is_bad_target, is_expression_target}
use Rattle.col_types.specs.declared.data_type.DataType.{DataType, Date, Datetime, Duration, Time, Int64}
use Rattle.col_types.specs.declared.cast_options.CastOptions.{CastOptions}
use Rattle.col_types.specs.declared.error.PolarsError.{PolarsError}
use Rattle.col_types.specs.declared.operator.BinOp.{BinOp}
use Rattle.col_types.specs.declared.operator.ScalarOp.{ScalarOp}
use Rattle.col_model.specs.Arithmetic.{Interval}
use Rattle.col_model.specs.Value.{Value, Flat, Nested, Whole, Bytes, whole, on_slot, integer_slot}
use Rattle.col_model.specs.Column.{Column, IsValidColumn, values_of, is_value_in, is_slot_of}
use Rattle.col_model.specs.Formula.{Formula, value_of, slot_by, slots_by}
use Rattle.col_model.specs.Broadcast.{operand_row, row_before}
use Rattle.col_model.specs.CastTable.{CastRule, cast_rule, resolved_target}
use Rattle.col_model.specs.ColumnCalls.{cast_slot}
use Rattle.col_model.specs.OperatorTable.{OperatorRule, listed_rule}
use Rattle.col_model.specs.OperationNames.{name_of_op, unsupported}
use Rattle.col_model.specs.ScalarTable.{scalar_right_rule, scalar_left_rule, is_scalar_of, unit_change_rule}
use Rattle.col_model.specs.RuleLaws.{GivesValues, RuleGivesValues}
use Rattle.col_model.proofs.RuleLemmas.{by_built, casts_give_values, operators_give_values, right_scalars_give_values, left_scalars_give_values, unit_changes_give_values}
use Rattle.col_expr.specs.Tree.{Tree, Input, Cast, Binary, ScalarRight, ScalarLeft, InUnit, Shift}
use Rattle.col_expr.specs.Built.{is_built_cast, is_built_tree}
use Rattle.col_expr.specs.Meaning.{dtype_of, rule_dtype, rule_slot, rule_slots, scalar_slot, is_scalar_for, input_slot, slot_at, row_count, cast_rule_for, operator_rule_for, scalar_right_rule_for, scalar_left_rule_for, unit_change_rule_for}
use Rattle.col_expr.specs.Plan.{formula_for, cast_formula, rule_formula, scalar_formula}
use Rattle.col_expr.specs.PlanLaws.{operands_at}

-- ---- a node by its formula

-- a formula on two slots, null where there is none
abbrev pub formula_slot : Option Formula → Option Value × Option Value → Option Value
formula_slot None operands = None
formula_slot (Some formula) operands = slots_by formula operands.0 operands.1

one_twice : (f : Formula) (slot : Option Value) → slot_by f slot ≡ slots_by f slot slot
one_twice f None = refl
one_twice f (Some (Flat (Whole x))) = refl
one_twice f (Some (Flat (Bytes b))) = refl
one_twice f (Some (Nested leaves)) = refl

cast_by : (rule : Option CastRule) (slot : Option Value) → cast_slot rule slot ≡ formula_slot (cast_formula rule) (slot, slot)
cast_by None slot = refl
cast_by (Some rule) slot = one_twice rule.formula slot

rule_by : (rule : Option OperatorRule) (slot : Option Value) → rule_slot rule slot ≡ formula_slot (rule_formula rule) (slot, slot)
rule_by None slot = refl
rule_by (Some rule) slot = one_twice rule.formula slot

pair_by : (rule : Option OperatorRule) (left right : Option Value) → rule_slots rule left right ≡ formula_slot (rule_formula rule) (left, right)
pair_by None left right = refl
pair_by (Some rule) left right = refl

scalar_by' : (dtype : Option DataType) (k : ℤ) (rule : Option OperatorRule) (slot : Option Value) → scalar_slot dtype k rule slot ≡ formula_slot (scalar_formula dtype k rule) (slot, slot)
scalar_by' dtype k rule slot = go (is_scalar_for dtype k)
  where
    go : (b : Bool) → (if b then rule_slot rule slot else None) ≡ formula_slot (if b then rule_formula rule else None) (slot, slot)
    go true = rule_by rule slot
    go false = refl

-- nodes that have a formula
abbrev pub HasFormula : Tree → Type 0
HasFormula (Input index) = ⊥
HasFormula (Cast e t o) = Unit {0}
HasFormula (Binary op l r) = Unit {0}
HasFormula (ScalarRight e op k) = Unit {0}
HasFormula (ScalarLeft k op e) = Unit {0}
HasFormula (InUnit e u) = Unit {0}
HasFormula (Shift e p) = ⊥

pub slot-formula : (inputs : List Column) (tree : Tree) (row : ℕ) → HasFormula tree → slot_at inputs tree row ≡ formula_slot (formula_for inputs tree) (operands_at inputs tree row)
slot-formula inputs (Input index) row h = absurd h
slot-formula inputs (Cast e t o) row h = cast_by (cast_rule_for (dtype_of inputs e) t o) (slot_at inputs e row)
slot-formula inputs (Binary op l r) row h =
    pair_by (operator_rule_for op (dtype_of inputs l) (dtype_of inputs r))
    (slot_at inputs l (operand_row (row_count inputs l) row)) (slot_at inputs r (operand_row (row_count inputs r) row))
slot-formula inputs (ScalarRight e op k) row h = scalar_by' (dtype_of inputs e) k (scalar_right_rule_for (dtype_of inputs e) op k) (slot_at inputs e row)
slot-formula inputs (ScalarLeft k op e) row h = scalar_by' (dtype_of inputs e) k (scalar_left_rule_for k op (dtype_of inputs e)) (slot_at inputs e row)
slot-formula inputs (InUnit e u) row h = rule_by (unit_change_rule_for (dtype_of inputs e) u) (slot_at inputs e row)
slot-formula inputs (Shift e p) row h = absurd h

-- ---- slots that are valid, taken apart

on_slot_there : (f : ℤ → Option ℤ) (slot : Option Value) (value : Value) → on_slot f slot ≡ Some value → (x : ℤ) × (n : ℤ) × (slot ≡ Some (whole x)) × (f x ≡ Some n) × (value ≡ whole n)
on_slot_there f None value e = cc
on_slot_there f (Some (Flat (Bytes b))) value e = cc
on_slot_there f (Some (Nested leaves)) value e = cc
on_slot_there f (Some (Flat (Whole x))) value e = go (f x) refl e
  where
    go : (o : Option ℤ) → f x ≡ o → integer_slot o ≡ Some value → (y : ℤ) × (n : ℤ) × (Some (whole x) ≡ Some (whole y)) × (f y ≡ Some n) × (value ≡ whole n)
    go None is e = cc
    go (Some n) is e = let v : value ≡ whole n = cc in (x, n, refl, is, v)

pub slots_there : (f : Formula) (left right : Option Value) (value : Value) → slots_by f left right ≡ Some value
    → (x : ℤ) × (y : ℤ) × (n : ℤ) × (left ≡ Some (whole x)) × (right ≡ Some (whole y)) × (value_of f x y ≡ Some n) × (value ≡ whole n)
slots_there f None right value e = cc
slots_there f (Some (Flat (Bytes b))) right value e = cc
slots_there f (Some (Nested leaves)) right value e = cc
slots_there f (Some (Flat (Whole x))) right value e =
    let t = on_slot_there (value_of f x) right value e in
    (x, t.0, t.1, refl, t.2, t.3, t.4)

pub formula_there : (f : Option Formula) (operands : Option Value × Option Value) (value : Value) → formula_slot f operands ≡ Some value
    → (g : Formula) × (x : ℤ) × (y : ℤ) × (n : ℤ) × (f ≡ Some g) × (operands.0 ≡ Some (whole x)) × (operands.1 ≡ Some (whole y)) × (value_of g x y ≡ Some n) × (value ≡ whole n)
formula_there None operands value e = cc
formula_there (Some g) operands value e =
    let t = slots_there g operands.0 operands.1 value e in
    (g, t.0, t.1, t.2, refl, t.3, t.4, t.5, t.6)

-- ---- values of types

-- a value of an interval is an integer
pub value_whole : (o : Option Interval) (value : Value) → is_value_in o value ≡ true → (x : ℤ) × (value ≡ whole x)
value_whole None value h = absurd (false≢true h)
value_whole (Some range) (Flat (Whole x)) h = (x, refl)
value_whole (Some range) (Flat (Bytes b)) h = absurd (false≢true h)
value_whole (Some range) (Nested leaves) h = absurd (false≢true h)

-- the slots of a node are values of the type
pub record SlotsFit (inputs : List Column) (tree : Tree) (dtype : DataType) : Type 0 where
  pub built : is_built dtype ≡ true
  pub values : (row : ℕ) (value : Value) → slot_at inputs tree row ≡ Some value → is_value_in (values_of dtype) value ≡ true

-- a column that there is
pub column_valid : (inputs : List Column) (index : ℕ) (column : Column) → All IsValidColumn inputs → slice_get inputs index ≡ Some column → IsValidColumn column
column_valid [] index column all e = cc
column_valid (input ∷ inputs) zero column all e =
    let same : input ≡ column = cc in
    let P : Column → Type 0 = λ c. IsValidColumn c in
    subst P same (All-head IsValidColumn input inputs all)
column_valid (input ∷ inputs) (suc index) column all e =
    column_valid inputs index column (All-tail IsValidColumn input inputs all) e

slot_valid : (dtype : DataType) (slots : List (Option Value)) (row : ℕ) (value : Value) → list_all (is_slot_of dtype) slots ≡ true → slice_index_or slots row None ≡ Some value → is_slot_of dtype (Some value) ≡ true
slot_valid dtype [] row value all e = cc
slot_valid dtype (slot ∷ slots) zero value all e = ap (is_slot_of dtype) (sym e) ∙ (and_parts (is_slot_of dtype slot) (list_all (is_slot_of dtype) slots) all).0
slot_valid dtype (slot ∷ slots) (suc row) value all e = slot_valid dtype slots row value (and_parts (is_slot_of dtype slot) (list_all (is_slot_of dtype) slots) all).1 e

some_map : {X Y : Type 0} (f : X → Y) (o : Option X) (y : Y) → option_map f o ≡ Some y → (x : X) × (o ≡ Some x) × (f x ≡ y)
some_map f None y e = cc
some_map f (Some x) y e = let is : f x ≡ y = cc in (x, refl, is)

input_fits : (inputs : List Column) → All IsValidColumn inputs → (index : ℕ) (dtype : DataType) → dtype_of inputs (Input index) ≡ Some dtype → SlotsFit inputs (Input index) dtype
input_fits inputs all index dtype e =
    let c = some_map (λ (c : Column). c.dtype) (slice_get inputs index) dtype e in
    let valid = column_valid inputs index c.0 all c.1 in
    let P : DataType → Type 0 = λ d. is_built d ≡ true in
    record {
      built = subst P c.2 (and_parts (is_built c.0.dtype) (is_column_type c.0.dtype) valid.typed).0;
      values = λ row value s.
          let there : slice_index_or c.0.slots row None ≡ Some value = ap (λ o. input_slot o row) (sym c.1) ∙ s in
          ap (λ d. is_value_in (values_of d) value) (sym c.2) ∙ slot_valid c.0.dtype c.0.slots row value valid.values there;
    }

-- a target of which columns exist is settled as it is
settled_as_is : (target : DataType) → is_built target ≡ true → (from : DataType) → is_built from ≡ true → resolved_target from target ≡ target
settled_as_is =
    by_built (λ t. (from : DataType) → is_built from ≡ true → resolved_target from t ≡ t)
    (by_built (λ f. resolved_target f Date ≡ Date) refl (λ u z. refl) (λ u. refl) refl refl)
    (λ u z. by_built (λ f. resolved_target f (Datetime u z) ≡ Datetime u z) refl (λ v y. refl) (λ v. refl) refl refl)
    (λ u. by_built (λ f. resolved_target f (Duration u) ≡ Duration u) refl (λ v y. refl) (λ v. refl) refl refl)
    (by_built (λ f. resolved_target f Time ≡ Time) refl (λ u z. refl) (λ u. refl) refl refl)
    (by_built (λ f. resolved_target f Int64 ≡ Int64) refl (λ u z. refl) (λ u. refl) refl refl)

built_target : (target : DataType) → is_built_cast target ≡ true → is_expression_target target ≡ true → is_built target ≡ true
built_target target cast expression =
    let holds = (and_parts (holds_integers target) (not (is_bad_target target)) expression).0 in
    go (is_built target) (holds_integers target) cast holds
  where
    go : (b h : Bool) → (b || not h) ≡ true → h ≡ true → b ≡ true
    go true h c e = refl
    go false true c e = absurd (false≢true c)
    go false false c e = absurd (false≢true e)

if_some : {X : Type 0} (b : Bool) (o : Option X) (x : X) → (if b then o else None) ≡ Some x → (b ≡ true) × (o ≡ Some x)
if_some true o x e = (refl, e)
if_some false o x e = cc

none_there : {P : Type 0} (value : Value) → None ≡ Some value → P
none_there value e = cc

-- a rule on slots of a type gives slots of its answer's type
formula_fits : (inputs : List Column) (tree : Tree) (dtype left right : DataType) (f : Formula) → HasFormula tree → is_built dtype ≡ true
    → formula_for inputs tree ≡ Some f → GivesValues left right dtype f
    → ((row : ℕ) (value : Value) → (operands_at inputs tree row).0 ≡ Some value → is_value_in (values_of left) value ≡ true)
    → ((row : ℕ) (value : Value) → (operands_at inputs tree row).1 ≡ Some value → is_value_in (values_of right) value ≡ true)
    → SlotsFit inputs tree dtype
formula_fits inputs tree dtype left right f has built is gives l r = record {
  built = built;
  values = λ row value s.
      let t = formula_there (formula_for inputs tree) (operands_at inputs tree row) value (sym (slot-formula inputs tree row has) ∙ s) in
      let g : t.0 ≡ f = some_same t.0 f (sym t.4 ∙ is) in
      let v : value_of f t.1 t.2 ≡ Some t.3 = ap (λ h. value_of h t.1 t.2) (sym g) ∙ t.7 in
      ap (is_value_in (values_of dtype)) t.8 ∙ gives t.1 t.2 t.3 (l row (whole t.1) t.5) (r row (whole t.2) t.6) v;
}
  where
    some_same : (a b : Formula) → Some a ≡ Some b → a ≡ b
    some_same a b e = cc

cast_fits : (inputs : List Column) (e : Tree) (target : DataType) (o : CastOptions) (dtype from : DataType) → is_built_cast target ≡ true → dtype_of inputs e ≡ Some from → SlotsFit inputs e from
    → dtype_of inputs (Cast e target o) ≡ Some dtype → SlotsFit inputs (Cast e target o) dtype
cast_fits inputs e target o dtype from cast typed fits is =
    let t = if_some (is_expression_target target) (option_map (λ d. resolved_target d target) (dtype_of inputs e)) dtype is in
    let built = built_target target cast t.0 in
    let settled = settled_as_is target built from fits.built in
    let same : target ≡ dtype = some_same target dtype (sym (ap (option_map (λ d. resolved_target d target)) typed ∙ ap Some settled) ∙ t.1) in
    let P : DataType → Type 0 = λ d. SlotsFit inputs (Cast e target o) d in
    subst P same (by_rule (cast_rule from target o) refl settled built)
  where
    some_same : (a b : DataType) → Some a ≡ Some b → a ≡ b
    some_same a b e = cc

    by_rule : (rule : Option CastRule) → cast_rule from target o ≡ rule → resolved_target from target ≡ target → is_built target ≡ true → SlotsFit inputs (Cast e target o) target
    by_rule None at settled built = record {
      built = built;
      values = λ row value s.
          let rule : cast_rule_for (dtype_of inputs e) target o ≡ None = ap (λ d. cast_rule_for d target o) typed ∙ ap (λ d. cast_rule from d o) settled ∙ at in
          none_there value (ap (λ r. cast_slot r (slot_at inputs e row)) (sym rule) ∙ s);
    }
    by_rule (Some rule) at settled built =
        let is : cast_rule_for (dtype_of inputs e) target o ≡ Some rule = ap (λ d. cast_rule_for d target o) typed ∙ ap (λ d. cast_rule from d o) settled ∙ at in
        formula_fits inputs (Cast e target o) target from from rule.formula tt built (ap cast_formula is)
        (casts_give_values from target o rule fits.built built at) fits.values fits.values

rule_fits : (inputs : List Column) (tree : Tree) (dtype left right : DataType) (o : Option OperatorRule) (rule : OperatorRule) → HasFormula tree
    → o ≡ Some rule → rule_dtype o ≡ Some dtype → formula_for inputs tree ≡ rule_formula o → RuleGivesValues left right rule
    → ((row : ℕ) (value : Value) → (operands_at inputs tree row).0 ≡ Some value → is_value_in (values_of left) value ≡ true)
    → ((row : ℕ) (value : Value) → (operands_at inputs tree row).1 ≡ Some value → is_value_in (values_of right) value ≡ true)
    → SlotsFit inputs tree dtype
rule_fits inputs tree dtype left right o rule has at typed formula gives l r =
    let same : rule.dtype ≡ dtype = some_same rule.dtype dtype (sym (ap rule_dtype at) ∙ typed) in
    let P : DataType → Type 0 = λ d. SlotsFit inputs tree d in
    subst P same (formula_fits inputs tree rule.dtype left right rule.formula has gives.built (formula ∙ ap rule_formula at) gives.values l r)
  where
    some_same : (a b : DataType) → Some a ≡ Some b → a ≡ b
    some_same a b e = cc

listed_there : (rule : Option OperatorRule) (refusal : PolarsError) → result_ok (ok_or rule refusal) ≡ rule
listed_there None refusal = refl
listed_there (Some rule) refusal = refl

-- an integer that the word doesn't have gives no slot
scalar_fits : (inputs : List Column) (tree e : Tree) (dtype from : DataType) (k : ℤ) (o : Option OperatorRule) → HasFormula tree → dtype_of inputs e ≡ Some from → SlotsFit inputs e from
    → rule_dtype o ≡ Some dtype → formula_for inputs tree ≡ scalar_formula (dtype_of inputs e) k o
    → ((row : ℕ) → operands_at inputs tree row ≡ (slot_at inputs e row, slot_at inputs e row))
    → ((rule : OperatorRule) → o ≡ Some rule → is_built dtype ≡ true)
    → ((rule : OperatorRule) → is_scalar_of from k ≡ true → o ≡ Some rule → RuleGivesValues from from rule) → SlotsFit inputs tree dtype
scalar_fits inputs tree e dtype from k o has typed fits is formula operands built gives = go (is_scalar_of from k) refl
  where
    at : formula_for inputs tree ≡ (if is_scalar_of from k then rule_formula o else None)
    at = formula ∙ ap (λ d. scalar_formula d k o) typed

    left : (row : ℕ) (value : Value) → (operands_at inputs tree row).0 ≡ Some value → is_value_in (values_of from) value ≡ true
    left row value s = fits.values row value (ap (λ p. p.0) (sym (operands row)) ∙ s)

    right : (row : ℕ) (value : Value) → (operands_at inputs tree row).1 ≡ Some value → is_value_in (values_of from) value ≡ true
    right row value s = fits.values row value (ap (λ p. p.1) (sym (operands row)) ∙ s)

    go : (b : Bool) → is_scalar_of from k ≡ b → SlotsFit inputs tree dtype
    go false no_scalar = record {
      built = built (some_map (λ (r : OperatorRule). r.dtype) o dtype is).0 (some_map (λ (r : OperatorRule). r.dtype) o dtype is).1;
      values = λ row value s.
          let none : formula_for inputs tree ≡ None = at ∙ ap (λ b. if b then rule_formula o else None) no_scalar in
          none_there value (ap (λ f. formula_slot f (operands_at inputs tree row)) (sym none) ∙ sym (slot-formula inputs tree row has) ∙ s);
    }
    go true scalar =
        let rule = some_map (λ (r : OperatorRule). r.dtype) o dtype is in
        rule_fits inputs tree dtype from from o rule.0 has rule.1 is (at ∙ ap (λ b. if b then rule_formula o else None) scalar) (gives rule.0 scalar rule.1) left right

typed_there : (dtype : Option DataType) (f : DataType → Option OperatorRule) (g : Option DataType → Option OperatorRule) (answer : DataType)
    → g None ≡ None → rule_dtype (g dtype) ≡ Some answer → (from : DataType) × (dtype ≡ Some from)
typed_there None f g answer none e = cc' (ap rule_dtype (sym none) ∙ e)
  where
    cc' : None ≡ Some answer → (from : DataType) × (None ≡ Some from)
    cc' e = cc
typed_there (Some from) f g answer none e = (from, refl)

keeps : (from dtype : DataType) → Some dtype ≡ Some from → is_built from ≡ true → is_built dtype ≡ true
keeps from dtype e h =
    let same : dtype ≡ from = cc in
    ap is_built same ∙ h

-- the type of a scalar's answer is that of the column
right_built : (from : DataType) → is_built from ≡ true → (op : ScalarOp) (k : ℤ) (rule : OperatorRule) (dtype : DataType) → scalar_right_rule from op k ≡ Some rule → Some rule.dtype ≡ Some dtype → is_built dtype ≡ true
right_built =
    by_built (λ from. (op : ScalarOp) (k : ℤ) (rule : OperatorRule) (dtype : DataType) → scalar_right_rule from op k ≡ Some rule → Some rule.dtype ≡ Some dtype → is_built dtype ≡ true)
    (λ op k rule dtype e f. keeps Date dtype (sym (ap (option_map (λ (r : OperatorRule). r.dtype)) e ∙ f)) refl)
    (λ u z op k rule dtype e f. keeps (Datetime u z) dtype (sym (ap (option_map (λ (r : OperatorRule). r.dtype)) e ∙ f)) refl)
    (λ u op k rule dtype e f. keeps (Duration u) dtype (sym (ap (option_map (λ (r : OperatorRule). r.dtype)) e ∙ f)) refl)
    (λ op k rule dtype e f. keeps Time dtype (sym (ap (option_map (λ (r : OperatorRule). r.dtype)) e ∙ f)) refl)
    (λ op k rule dtype e f. keeps Int64 dtype (sym (ap (option_map (λ (r : OperatorRule). r.dtype)) e ∙ f)) refl)

left_built : (from : DataType) → is_built from ≡ true → (k : ℤ) (op : BinOp) (rule : OperatorRule) (dtype : DataType) → scalar_left_rule k op from ≡ Some rule → Some rule.dtype ≡ Some dtype → is_built dtype ≡ true
left_built =
    by_built (λ from. (k : ℤ) (op : BinOp) (rule : OperatorRule) (dtype : DataType) → scalar_left_rule k op from ≡ Some rule → Some rule.dtype ≡ Some dtype → is_built dtype ≡ true)
    (λ k op rule dtype e f. keeps Date dtype (sym (ap (option_map (λ (r : OperatorRule). r.dtype)) e ∙ f)) refl)
    (λ u z k op rule dtype e f. keeps (Datetime u z) dtype (sym (ap (option_map (λ (r : OperatorRule). r.dtype)) e ∙ f)) refl)
    (λ u k op rule dtype e f. keeps (Duration u) dtype (sym (ap (option_map (λ (r : OperatorRule). r.dtype)) e ∙ f)) refl)
    (λ k op rule dtype e f. keeps Time dtype (sym (ap (option_map (λ (r : OperatorRule). r.dtype)) e ∙ f)) refl)
    (λ k op rule dtype e f. keeps Int64 dtype (sym (ap (option_map (λ (r : OperatorRule). r.dtype)) e ∙ f)) refl)

pub slots_fit : (inputs : List Column) → All IsValidColumn inputs → (tree : Tree) → is_built_tree tree ≡ true → (dtype : DataType) → dtype_of inputs tree ≡ Some dtype → SlotsFit inputs tree dtype
slots_fit inputs all (Input index) built dtype is = input_fits inputs all index dtype is
slots_fit inputs all (Cast e target o) built dtype is =
    let parts = and_parts (is_built_cast target) (is_built_tree e) built in
    let t = if_some (is_expression_target target) (option_map (λ d. resolved_target d target) (dtype_of inputs e)) dtype is in
    let from = some_map (λ d. resolved_target d target) (dtype_of inputs e) dtype t.1 in
    cast_fits inputs e target o dtype from.0 parts.0 from.1 (slots_fit inputs all e parts.1 from.0 from.1) is
slots_fit inputs all (Binary op l r) built dtype is =
    let parts = and_parts (is_built_tree l) (is_built_tree r) built in
    let rule = some_map (λ (q : OperatorRule). q.dtype) (operator_rule_for op (dtype_of inputs l) (dtype_of inputs r)) dtype is in
    let t = pair_typed op (dtype_of inputs l) (dtype_of inputs r) rule.0 rule.1 in
    let L = slots_fit inputs all l parts.0 t.0 t.2 in
    let R = slots_fit inputs all r parts.1 t.1 t.3 in
    rule_fits inputs (Binary op l r) dtype t.0 t.1 (operator_rule_for op (dtype_of inputs l) (dtype_of inputs r)) rule.0 tt rule.1 is refl
    (operators_give_values op t.0 t.1 rule.0 L.built R.built t.4)
    (λ row. L.values (operand_row (row_count inputs l) row)) (λ row. R.values (operand_row (row_count inputs r) row))
  where
    pair_typed : (op : BinOp) (a b : Option DataType) (rule : OperatorRule) → operator_rule_for op a b ≡ Some rule → (left : DataType) × (right : DataType) × (a ≡ Some left) × (b ≡ Some right) × (listed_rule op left right ≡ Some rule)
    pair_typed op None b rule e = cc
    pair_typed op (Some left) None rule e = cc
    pair_typed op (Some left) (Some right) rule e =
        (left, right, refl, refl, sym (listed_there (listed_rule op left right) (unsupported (name_of_op op) left right)) ∙ e)
slots_fit inputs all (ScalarRight e op k) built dtype is =
    let from = typed_there (dtype_of inputs e) (λ d. scalar_right_rule d op k) (λ d. scalar_right_rule_for d op k) dtype refl is in
    let fits = slots_fit inputs all e built from.0 from.1 in
    let rule : scalar_right_rule_for (dtype_of inputs e) op k ≡ scalar_right_rule from.0 op k = ap (λ d. scalar_right_rule_for d op k) from.1 in
    scalar_fits inputs (ScalarRight e op k) e dtype from.0 k (scalar_right_rule_for (dtype_of inputs e) op k) tt from.1 fits is refl (λ row. refl)
    (λ r at. right_built from.0 fits.built op k r dtype (sym rule ∙ at) (sym (ap rule_dtype at) ∙ is))
    (λ r scalar at. right_scalars_give_values from.0 op k r fits.built scalar (sym rule ∙ at))
slots_fit inputs all (ScalarLeft k op e) built dtype is =
    let from = typed_there (dtype_of inputs e) (λ d. scalar_left_rule k op d) (λ d. scalar_left_rule_for k op d) dtype refl is in
    let fits = slots_fit inputs all e built from.0 from.1 in
    let rule : scalar_left_rule_for k op (dtype_of inputs e) ≡ scalar_left_rule k op from.0 = ap (λ d. scalar_left_rule_for k op d) from.1 in
    scalar_fits inputs (ScalarLeft k op e) e dtype from.0 k (scalar_left_rule_for k op (dtype_of inputs e)) tt from.1 fits is refl (λ row. refl)
    (λ r at. left_built from.0 fits.built k op r dtype (sym rule ∙ at) (sym (ap rule_dtype at) ∙ is))
    (λ r scalar at. left_scalars_give_values k op from.0 r fits.built (sym rule ∙ at))
slots_fit inputs all (InUnit e u) built dtype is =
    let from = typed_there (dtype_of inputs e) (λ d. unit_change_rule d u) (λ d. unit_change_rule_for d u) dtype refl is in
    let fits = slots_fit inputs all e built from.0 from.1 in
    let rule = some_map (λ (q : OperatorRule). q.dtype) (unit_change_rule_for (dtype_of inputs e) u) dtype is in
    rule_fits inputs (InUnit e u) dtype from.0 from.0 (unit_change_rule_for (dtype_of inputs e) u) rule.0 tt rule.1 is refl
    (unit_changes_give_values from.0 u rule.0 fits.built (ap (λ d. unit_change_rule_for d u) (sym from.1) ∙ rule.1)) fits.values fits.values
slots_fit inputs all (Shift e p) built dtype is =
    let fits = slots_fit inputs all e built dtype is in
    record { built = fits.built; values = λ row value s. shifted (row_before (row_count inputs e) p row) value fits.values s }
  where
    shifted : (o : Option ℕ) (value : Value) → ((row : ℕ) (v : Value) → slot_at inputs e row ≡ Some v → is_value_in (values_of dtype) v ≡ true) → option_and_then (slot_at inputs e) o ≡ Some value → is_value_in (values_of dtype) value ≡ true
    shifted None value values s = none_there value s
    shifted (Some row) value values s = values row value s

-- Ticks of 64 bits: sums and differences wrapped, and formulas of one operand.
use Rattle.std.specs.Prelude.{◌≡◌, ◌+ℤ◌, ◌-ℤ◌, ◌*ℤ◌, ℕ, ℤ, pos, negsuc, true, Option, Some, None, FitsSigned}
use Rattle.std.specs.Int.{Width, w64, int_wrapping_add, int_wrapping_sub, cast_signed, cast_unsigned, int_div_euclid}
use Rattle.std.specs.Option.{option_map, option_and_then}
use Rattle.std.proofs.Common.{refl, ap, ◌∙◌, sym}
use Rattle.num_traits.specs.Ints.{signed-wrapping_add, signed-wrapping_sub}
use Rattle.col_model.specs.Arithmetic.{Signed, word_values, wrapped_value, fitting_value, floor_by, floor_mod}
use Rattle.col_model.specs.Formula.{Formula, X, Y, Constant, Product, value_of, divided, on_both}
use Rattle.col_model.specs.declared.ticks.UnitChange.{UnitChange}
use Rattle.col_model.specs.declared.ticks.UnitChange.TheVariants.{Finer, Same, Coarser}
use Rattle.col_model.specs.UnitChange.{datetime_by, duration_by}
use Rattle.col_kernel.specs.WordLaws.{read_signed, held_from_within}
use Rattle.col_arith.specs.declared.pair_rule.Operand.{Operand}
use Rattle.col_arith.specs.declared.pair_rule.Operand.TheVariants.{Moment, Length, Day}
use Rattle.col_arith.specs.declared.pair_rule.AddOrSub.{AddOrSub}
use Rattle.col_arith.specs.declared.pair_rule.AddOrSub.TheVariants as ops
use Rattle.col_arith.specs.declared.pair_rule.PairRule.TheVariants.{DateWith, Ticks, Rest}
use Rattle.col_arith.specs.declared.scalars.ScalarForm.{ScalarForm}
use Rattle.col_arith.specs.ScalarForm.{form_of}
use Rattle.col_arith.specs.PairRule.{operand_of, add_or_sub, formula_of, is_tick_in, tick_values, date_values}
use Rattle.col_types.specs.declared.operator.BinOp.{BinOp}
use Rattle.col_model.specs.OperatorTable.{number_form, wrapping}
use Rattle.std.proofs.lemmas.Int.{to_z-of_z}

-- a sum as std wraps it
pub wrapped-sum : (x y : ℤ) → FitsSigned w64 x → FitsSigned w64 y
    → int_wrapping_add w64 x y ≡ wrapped_value (Signed w64) (x +ℤ y)
unfolding wrapped_value
wrapped-sum x y f g = signed-wrapping_add w64 x y _ refl f g

-- a difference as std wraps it
pub wrapped-difference : (x y : ℤ) → FitsSigned w64 x → FitsSigned w64 y
    → int_wrapping_sub w64 x y ≡ wrapped_value (Signed w64) (x -ℤ y)
unfolding wrapped_value
wrapped-difference x y f g = signed-wrapping_sub w64 x y _ refl f g

-- a slot of a word reads as itself
pub read_slot : (w : Width) (slot : Option ℤ) → is_tick_in (word_values (Signed w)) slot ≡ true
    → option_map (wrapped_value (Signed w)) slot ≡ slot
read_slot w None h = refl
read_slot w (Some x) h = ap Some (read_signed w x (held_from_within (Signed w) x h))

-- a word as std passes it
passed : (x : ℤ) → FitsSigned w64 x → wrapped_value (Signed w64) (cast_signed w64 (cast_unsigned w64 x)) ≡ x
passed x f = ap (wrapped_value (Signed w64)) (to_z-of_z w64 x f) ∙ read_signed w64 x f

-- the rest of words is the rest of ticks
pub rest-read : (slot : Option ℤ) (x y : ℤ) → is_tick_in tick_values slot ≡ true → FitsSigned w64 x → FitsSigned w64 y
    → option_map (wrapped_value (Signed w64)) slot
    ≡ divided floor_mod (wrapped_value (Signed w64) (cast_signed w64 (cast_unsigned w64 x))) (wrapped_value (Signed w64) (cast_signed w64 (cast_unsigned w64 y)))
    → slot ≡ divided floor_mod x y
rest-read slot x y h f g e = sym (read_slot w64 slot h) ∙ rw (passed x f, passed y g) at e

-- a length of time on the left or on the right has the same value
pub length-left : (change : UnitChange) (x y : ℤ) → value_of (duration_by change X) x y ≡ value_of (duration_by change X) x x
length-left (Finer factor) x y = refl
length-left Same x y = refl
length-left (Coarser factor) x y = refl

pub length-right : (change : UnitChange) (x y : ℤ) → value_of (duration_by change Y) x y ≡ value_of (duration_by change X) y y
length-right (Finer factor) x y = refl
length-right Same x y = refl
length-right (Coarser factor) x y = refl

moment-left : (change : UnitChange) (x y : ℤ) → value_of (datetime_by change X) x y ≡ value_of (datetime_by change X) x x
moment-left (Finer factor) x y = refl
moment-left Same x y = refl
moment-left (Coarser factor) x y = refl

moment-right : (change : UnitChange) (x y : ℤ) → value_of (datetime_by change Y) x y ≡ value_of (datetime_by change X) y y
moment-right (Finer factor) x y = refl
moment-right Same x y = refl
moment-right (Coarser factor) x y = refl

-- and so has an operand
pub operand-left : (operand : Operand) (x y : ℤ) → value_of (operand_of operand X) x y ≡ value_of (operand_of operand X) x x
operand-left (Moment change) x y = moment-left change x y
operand-left (Length change) x y = length-left change x y
operand-left (Day day) x y = refl

pub operand-right : (operand : Operand) (x y : ℤ) → value_of (operand_of operand Y) x y ≡ value_of (operand_of operand X) y y
operand-right (Moment change) x y = moment-right change x y
operand-right (Length change) x y = length-right change x y
operand-right (Day day) x y = refl

-- a quotient as std rounds it
pub euclid-floor : (x : ℤ) (k : ℕ) → int_div_euclid x (pos k) ≡ floor_by x k
euclid-floor (pos n) k = refl
euclid-floor (negsuc n) k = refl

-- ---- rules for two ticks

wrapped-both : (f : ℤ → ℤ → ℤ) (p q : Option ℤ)
    → option_map (wrapped_value (Signed w64)) (on_both (λ v w. Some (f v w)) p q) ≡ on_both (λ v w. Some (wrapped_value (Signed w64) (f v w))) p q
wrapped-both f None q = refl
wrapped-both f (Some v) None = refl
wrapped-both f (Some v) (Some w) = refl

formula-both : (op : AddOrSub) (f g : Formula) (x y : ℤ)
    → value_of (wrapping (add_or_sub op) f g) x y ≡ on_both (value_of (wrapping (add_or_sub op) X Y)) (value_of f x y) (value_of g x y)
formula-both ops.Add f g x y = wrapped-both ◌+ℤ◌ (value_of f x y) (value_of g x y)
formula-both ops.Sub f g x y = wrapped-both ◌-ℤ◌ (value_of f x y) (value_of g x y)

-- the day of a date with a length of time
pub date_with-value : (op : AddOrSub) (day : ℕ) (change : UnitChange) (date length : ℤ) (moment ticks slot : Option ℤ)
    → ticks ≡ value_of (duration_by change X) length length
    → moment ≡ on_both (value_of (wrapping (add_or_sub op) X Y)) (Some (date *ℤ pos day)) ticks
    → slot ≡ option_and_then (fitting_value date_values) (option_map (λ v. floor_by v day) moment)
    → slot ≡ value_of (formula_of (DateWith op day change)) date length
date_with-value op day change date length moment ticks slot e f g =
    let days : Formula = Product X (Constant (pos day)) in
    let is : value_of (wrapping (add_or_sub op) days (duration_by change Y)) date length ≡ moment =
    formula-both op days (duration_by change Y) date length
    ∙ ap (λ (o : Option ℤ). on_both (value_of (wrapping (add_or_sub op) X Y)) (Some (date *ℤ pos day)) o) (length-right change date length ∙ sym e)
    ∙ sym f in
    g ∙ ap (λ (o : Option ℤ). option_and_then (fitting_value date_values) (option_map (λ v. floor_by v day) o)) (sym is)

-- ticks of two operands
pub ticks-value : (op : AddOrSub) (left right : Operand) (x y : ℤ) (slot p q : Option ℤ)
    → p ≡ value_of (operand_of left X) x x → q ≡ value_of (operand_of right X) y y
    → slot ≡ on_both (value_of (wrapping (add_or_sub op) X Y)) p q
    → slot ≡ value_of (formula_of (Ticks op left right)) x y
ticks-value op left right x y slot p q e f g =
    let first : p ≡ value_of (operand_of left X) x y = e ∙ sym (operand-left left x y) in
    let second : q ≡ value_of (operand_of right Y) x y = f ∙ sym (operand-right right x y) in
    g ∙ ap (λ (o : Option ℤ). on_both (value_of (wrapping (add_or_sub op) X Y)) o q) first
    ∙ ap (λ (o : Option ℤ). on_both (value_of (wrapping (add_or_sub op) X Y)) (value_of (operand_of left X) x y) o) second
    ∙ sym (formula-both op (operand_of left X) (operand_of right Y) x y)

-- what a division of two lengths leaves
pub rest-both : (left right : UnitChange) (x y : ℤ) (slot p q : Option ℤ)
    → p ≡ value_of (duration_by left X) x x → q ≡ value_of (duration_by right X) y y
    → slot ≡ on_both (divided floor_mod) p q
    → slot ≡ value_of (formula_of (Rest left right)) x y
rest-both left right x y slot p q e f g =
    g ∙ ap (λ (o : Option ℤ). on_both (divided floor_mod) o q) (e ∙ sym (length-left left x y))
    ∙ ap (λ (o : Option ℤ). on_both (divided floor_mod) (value_of (duration_by left X) x y) o) (f ∙ sym (length-right right x y))

-- ---- words

-- what two integers of a word give as words they give as themselves
pub number-read : (w : Width) (op : BinOp) (slot : Option ℤ) (x z y l : ℤ) → is_tick_in (word_values (Signed w)) slot ≡ true
    → x ≡ y → z ≡ l → FitsSigned w y → FitsSigned w l
    → option_map (wrapped_value (Signed w)) slot ≡ value_of (number_form op (Signed w)) (wrapped_value (Signed w) x) (wrapped_value (Signed w) z)
    → slot ≡ value_of (number_form op (Signed w)) y l
number-read w op slot x z y l h p q f g e =
    let left : wrapped_value (Signed w) x ≡ y = ap (wrapped_value (Signed w)) p ∙ read_signed w y f in
    let right : wrapped_value (Signed w) z ≡ l = ap (wrapped_value (Signed w)) q ∙ read_signed w l g in
    sym (read_slot w slot h) ∙ e
    ∙ ap (λ (v : ℤ). value_of (number_form op (Signed w)) v (wrapped_value (Signed w) z)) left
    ∙ ap (λ (v : ℤ). value_of (number_form op (Signed w)) y v) right

-- what a form gives in words it gives in the integers that they stand for
pub form-read : (w : Width) (form : ScalarForm) (slot : Option ℤ) (x k y l : ℤ) → is_tick_in (word_values (Signed w)) slot ≡ true
    → x ≡ y → k ≡ l → FitsSigned w y → FitsSigned w l
    → option_map (wrapped_value (Signed w)) slot
    ≡ value_of (form_of form (wrapped_value (Signed w) k) (Signed w)) (wrapped_value (Signed w) x) (wrapped_value (Signed w) x)
    → slot ≡ value_of (form_of form l (Signed w)) y y
form-read w form slot x k y l h p q f g e =
    let value : wrapped_value (Signed w) x ≡ y = ap (wrapped_value (Signed w)) p ∙ read_signed w y f in
    let scalar : wrapped_value (Signed w) k ≡ l = ap (wrapped_value (Signed w)) q ∙ read_signed w l g in
    sym (read_slot w slot h) ∙ e
    ∙ ap (λ (v : ℤ). value_of (form_of form v (Signed w)) (wrapped_value (Signed w) x) (wrapped_value (Signed w) x)) scalar
    ∙ ap (λ (v : ℤ). value_of (form_of form l (Signed w)) v v) value

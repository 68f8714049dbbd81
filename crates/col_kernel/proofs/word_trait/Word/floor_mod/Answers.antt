use Rattle.std.specs.Prelude.{ℤ}
use Rattle.std.specs.Option.{option_map}
use Rattle.std.proofs.Common.{Some, ap, sym, subst, ◌∙◌}
use Rattle.col_model.specs.Arithmetic.{wrapped_value}
use Rattle.col_kernel.specs.WordLaws.{IsHeld, held_from_within}
use Rattle.col_kernel.proofs.WordQuotients.{wrapped_value-mod, rest-wraps_not, unless-some, not_zero}
use Rattle.col_kernel.proofs.word_trait.Word.floor_mod.Goals as goal

pub returns-else-divisor-eq0-clause-value : goal.returns-else-divisor-eq0-clause-value
returns-else-divisor-eq0-clause-value g c =
    let some = not_zero c.to_i128-divisor.result _ c.if-divisor-eq0.false
    c.to_i128-divisor.ensures.value in
    ap Some
    (c.wrap_i128.ensures.value
    ∙ wrapped_value-mod g.Self.Word.word_type _ _ _ _ c.floor_rest.result
    (record { sfits = c.to_i128.type_inv }) (record { sfits = c.to_i128-divisor.type_inv })
    (record { sfits = c.floor_rest.type_inv }) c.to_i128.ensures.value
    c.to_i128-divisor.ensures.value c.floor_rest.ensures.value)
    ∙ sym (ap (option_map (wrapped_value g.Self.Word.word_type)) (unless-some _ _ some))

pub returns-else-divisor-eq0-clause-exact : goal.returns-else-divisor-eq0-clause-exact
returns-else-divisor-eq0-clause-exact g c =
    let t = g.Self.Word.word_type in
    let some = not_zero c.to_i128-divisor.result _ c.if-divisor-eq0.false
    c.to_i128-divisor.ensures.value in
    let left = subst (λ (z : ℤ). IsHeld t z) c.to_i128.ensures.value
    (held_from_within t _ c.to_i128.ensures.in_range) in
    let right = subst (λ (z : ℤ). IsHeld t z) c.to_i128-divisor.ensures.value
    (held_from_within t _ c.to_i128-divisor.ensures.in_range) in
    ap Some
    (c.wrap_i128.ensures.value
    ∙ wrapped_value-mod t _ _ _ _ c.floor_rest.result (record { sfits = c.to_i128.type_inv })
    (record { sfits = c.to_i128-divisor.type_inv })
    (record { sfits = c.floor_rest.type_inv }) c.to_i128.ensures.value
    c.to_i128-divisor.ensures.value c.floor_rest.ensures.value
    ∙ rest-wraps_not t _ _ some left right)
    ∙ sym (unless-some _ _ some)

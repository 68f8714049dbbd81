use Rattle.std.specs.Option.{option_map}
use Rattle.std.proofs.Common.{Some, ap, sym, ◌∙◌}
use Rattle.col_model.specs.Arithmetic.{wrapped_value}
use Rattle.col_kernel.proofs.WordQuotients.{wrapped_value-trunc, unless-some, not_zero}
use Rattle.col_kernel.proofs.word_trait.Word.trunc_div.Goals as goal

pub returns-else-divisor-eq0 : goal.returns-else-divisor-eq0
returns-else-divisor-eq0 g c = record {
  value = let some = not_zero c.to_i128-divisor.result _ c.if-divisor-eq0.false
      c.to_i128-divisor.ensures.value in
      ap Some
      (c.wrap_i128.ensures.value
      ∙ wrapped_value-trunc g.Self.Word.word_type _ _ _ _ c.wrapping_div.result
      (record { sfits = c.to_i128.type_inv }) (record { sfits = c.to_i128-divisor.type_inv })
      (record { sfits = c.wrapping_div.type_inv }) c.to_i128.ensures.value
      c.to_i128-divisor.ensures.value c.wrapping_div.ensures)
      ∙ sym (ap (option_map (wrapped_value g.Self.Word.word_type)) (unless-some _ _ some));
}

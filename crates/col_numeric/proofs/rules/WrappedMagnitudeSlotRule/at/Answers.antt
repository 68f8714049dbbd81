use Rattle.std.proofs.Common.{Some, ap, ◌∙◌}
use Rattle.col_model.specs.Value.{whole}
use Rattle.col_kernel.proofs.WordQuotients.{wrapped_value-abs}
use Rattle.col_numeric.proofs.rules.WrappedMagnitudeSlotRule.at.Goals as goal

pub returns : goal.returns
returns g c =
    let is = c.wrap_i128.ensures.value
    ∙ wrapped_value-abs g.T.Word.word_type c.to_i128.result _ c.wrapping_abs.result
    (record { sfits = c.to_i128.type_inv })
    (record { sfits = c.wrapping_abs.type_inv }) c.to_i128.ensures.value
    c.wrapping_abs.ensures in
    record { value = ap (λ z. Some (whole z)) is; kept = ap (λ z. Some (whole z)) is }

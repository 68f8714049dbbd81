use Rattle.std.proofs.Common.{Some, ap, ◌∙◌}
use Rattle.col_model.specs.Value.{whole}
use Rattle.col_kernel.proofs.WordQuotients.{wrapped_value-neg}
use Rattle.col_numeric.proofs.rules.WrappedNegativeSlotRule.at.Goals as goal

pub returns : goal.returns
returns g c =
    let is = c.wrap_i128.ensures.value
    ∙ wrapped_value-neg g.T.Word.word_type c.to_i128.result _ c.wrapping_neg.result
    (record { sfits = c.to_i128.type_inv })
    (record { sfits = c.wrapping_neg.type_inv }) c.to_i128.ensures.value
    c.wrapping_neg.ensures in
    record { value = ap (λ z. Some (whole z)) is; kept = ap (λ z. Some (whole z)) is }

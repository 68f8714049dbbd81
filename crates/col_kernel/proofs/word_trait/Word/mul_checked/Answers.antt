use Rattle.std.specs.Prelude.{ℤ, FitsSigned}
use Rattle.std.specs.Int.{w128}
use Rattle.std.proofs.Common.{sym, subst}
use Rattle.col_model.specs.Arithmetic.{Signed}
use Rattle.col_kernel.specs.WordLaws.{held_from_within}
use Rattle.col_kernel.proofs.WordLemmas.{fitting_value-not_held}
use Rattle.col_kernel.proofs.WordQuotients.{read_product}
use Rattle.col_kernel.proofs.word_trait.Word.mul_checked.Goals as goal

pub returns-in-None : goal.returns-in-None
returns-in-None g c =
    let product = read_product _ _ _ _ (record { sfits = c.to_i128.type_inv })
    (record { sfits = c.to_i128-2.type_inv }) c.to_i128.ensures.value
    c.to_i128-2.ensures.value in
    record {
      value = sym (fitting_value-not_held g.Self.Word.word_type _ (λ within.
          c.in-None.ensures
          (subst (λ (z : ℤ). FitsSigned w128 z) (sym product)
          (held_from_within (Signed w128) _ (g.met.Self.Word.range_in_i128 _ within)))));
    }

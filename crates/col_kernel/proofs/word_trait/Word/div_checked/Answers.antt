use Rattle.std.specs.Prelude.{FitsSigned}
use Rattle.std.specs.Int.{w128}
use Rattle.std.proofs.Common.{rules, ◌∙◌}
use Rattle.col_kernel.proofs.WordQuotients.{quotient-some, quotient-none}
use Rattle.col_kernel.proofs.word_trait.Word.div_checked.Goals as goal

pub returns-in-Some : goal.returns-in-Some
returns-in-Some g c =
    let f : FitsSigned w128 c.in-Some.quotient = search rules in record {
      value = c.from_i128.ensures.value
          ∙ quotient-some g.Self.Word.word_type c.to_i128.result c.to_i128-2.result _ _
          c.in-Some.quotient (record { sfits = c.to_i128.type_inv })
          (record { sfits = c.to_i128-2.type_inv }) f c.to_i128.ensures.value
          c.to_i128-2.ensures.value c.in-Some.ensures.0.0 c.in-Some.ensures.1;
    }

pub returns-in-None : goal.returns-in-None
returns-in-None g c = record {
  value = quotient-none g.Self.Word.word_type c.to_i128.result c.to_i128-2.result _ _
      (record { sfits = c.to_i128.type_inv })
      (record { sfits = c.to_i128-2.type_inv }) c.to_i128.ensures.value
      c.to_i128-2.ensures.value c.in-None.ensures g.met.Self.Word.range_in_i128;
}

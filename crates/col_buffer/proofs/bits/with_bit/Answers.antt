use Rattle.std.proofs.Common.{ap, sym, ◌∙◌, ◌==◌, ℕ}
use Rattle.std.specs.Int.{w64}
use Rattle.std.proofs.lemmas.Nat.Bits.{bit_at_set_same, bit_at_set_other, bit_at_clear_same, bit_at_clear_other}
use Rattle.col_buffer.proofs.bits.with_bit.Goals as goal

pub returns-then-valid-clause-here : goal.returns-then-valid-clause-here
returns-then-valid-clause-here c = ap (λ (n : ℕ). n == 1) (bit_at_set_same w64 c.args.word c.args.place c.requires.inside) ∙ sym c.if-valid.true

pub returns-then-valid-clause-others : goal.returns-then-valid-clause-others
returns-then-valid-clause-others c = λ i h ne. bit_at_set_other w64 c.args.word c.args.place c.requires.inside i ne

pub returns-else-valid-clause-here : goal.returns-else-valid-clause-here
returns-else-valid-clause-here c = ap (λ (n : ℕ). n == 1) (bit_at_clear_same w64 c.args.word c.args.place c.requires.inside) ∙ sym c.if-valid.false

pub returns-else-valid-clause-others : goal.returns-else-valid-clause-others
returns-else-valid-clause-others c = λ i h ne. bit_at_clear_other w64 c.args.word c.args.place c.requires.inside i h ne

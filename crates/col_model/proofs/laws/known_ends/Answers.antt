use Rattle.std.proofs.Common.{refl}
use Rattle.std.specs.Int.{w8, w64, w128}
use Rattle.col_model.specs.Arithmetic.{Signed, Unsigned, wrapped_value}
use Rattle.col_model.specs.KnownWords.{WrapsAtEnds, TurnsLeast}
use Rattle.col_model.proofs.laws.known_ends.Goals as goal

byte : WrapsAtEnds (Unsigned w8)
unfolding wrapped_value
byte = record { above = refl; below = refl; no_floor = refl; no_rest = refl }

long : WrapsAtEnds (Unsigned w64)
unfolding wrapped_value
long = record { above = refl; below = refl; no_floor = refl; no_rest = refl }

signed_byte : WrapsAtEnds (Signed w8)
unfolding wrapped_value
signed_byte = record { above = refl; below = refl; no_floor = refl; no_rest = refl }

longest : WrapsAtEnds (Signed w128)
unfolding wrapped_value
longest = record { above = refl; below = refl; no_floor = refl; no_rest = refl }

least_byte : TurnsLeast (Signed w8)
unfolding wrapped_value
least_byte = record {
  product = refl;
  floor = refl;
  trunc = refl;
  rest = refl;
  no_product = refl;
  no_quotient = refl;
}

least_longest : TurnsLeast (Signed w128)
unfolding wrapped_value
least_longest = record {
  product = refl;
  floor = refl;
  trunc = refl;
  rest = refl;
  no_product = refl;
  no_quotient = refl;
}

pub returns-clause-ends : goal.returns-clause-ends
returns-clause-ends c = record {
  byte = byte;
  long = long;
  signed_byte = signed_byte;
  longest = longest;
  least_byte = least_byte;
  least_longest = least_longest;
}

-- An answer that isn't a refusal.
use Rattle.std.specs.Prelude.{◌≡◌, Result, Ok}
use Rattle.col_types.specs.declared.error.PolarsError.{PolarsError}
use Rattle.col_model.specs.Chunked.{Chunked}

abbrev pub answer : Chunked → Result Chunked PolarsError
answer chunked = Ok chunked

pub answer-same : (x y : Chunked) → answer x ≡ answer y → x ≡ y
answer-same x y e = cc

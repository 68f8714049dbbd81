use Rattle.col_arith.proofs.CoercionLemmas.{coerced_castable}
use Rattle.col_arith.proofs.coercion.coerce_lhs_rhs.Goals as goal

pub cast_both-requires-clause-left : goal.cast_both-requires-clause-left
cast_both-requires-clause-left c =
    let types = rw (c.dtype.ensures.dtype, c.dtype-2.ensures.dtype) at c.in-Some.ensures.types in
    (coerced_castable _ _ c.in-Some.left c.in-Some.right c.known.ensures.valid.typed c.known-2.ensures.valid.typed types).0

pub cast_both-requires-clause-right : goal.cast_both-requires-clause-right
cast_both-requires-clause-right c =
    let types = rw (c.dtype.ensures.dtype, c.dtype-2.ensures.dtype) at c.in-Some.ensures.types in
    (coerced_castable _ _ c.in-Some.left c.in-Some.right c.known.ensures.valid.typed c.known-2.ensures.valid.typed types).1

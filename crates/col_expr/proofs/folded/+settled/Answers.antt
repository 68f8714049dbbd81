use Rattle.col_expr.proofs.folded.+settled.Goals as goal

pub returns-in_ok-column-in-Cast : goal.returns-in_ok-column-in-Cast
returns-in_ok-column-in-Cast g t c = record {
  ready = λ inputs folded before is.
      let w = rw c.in-Cast.is at is in
      let ready = c.in_ok-column-in-Cast.ensures.ready inputs w.0 before
      (rw c.into_inner.ensures w.3) in
      rw w.1 (c.done.ensures.ready inputs w.0 before ready.found ready.counted);
}

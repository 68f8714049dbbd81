use Rattle.std.proofs.Common.{◌<◌, ◌≤◌, length, arith}
use Rattle.col_model.specs.ChunkCalls.{null_count}
use Rattle.col_series.proofs.CastLemmas.{nulls-given, nulls-of, nulls-refused}
use Rattle.col_series.proofs.casts.nulls.Goals as goal

pub returns-then-null_count-len : goal.returns-then-null_count-len
returns-then-null_count-len c =
    let fewer : null_count c.args.column.now.column.slots < length c.args.column.now.column.slots = omega (arith, c.if-null_count-len.true, c.null_count.ensures.nulls, c.len.ensures.length) in
    record { column = rw (c.kind.ensures.value, c.kind-then-null_count-len.ensures.value, c.dtype.ensures.dtype) (nulls-refused c.args.target.now c.args.column.now.column fewer) }

pub returns : goal.returns
returns c =
    let all : length c.args.column.now.column.slots ≤ null_count c.args.column.now.column.slots = omega (arith, c.if-null_count-len.false, c.null_count.ensures.nulls, c.len.ensures.length) in
    let gave = rw (c.in_ok-name.ensures.cases, c.name.ensures.name, c.len-2.ensures.length) at c.full_null.ensures.column in
    record {
      column = rw (nulls-given c.args.target.now c.args.column.now.column all)
          (nulls-of c.full_null.result c.args.column.now.column.name c.args.target.now (length c.args.column.now.column.slots) c.known.ensures.valid.short gave);
    }

use Rattle.std.specs.Int.{w128}
use Rattle.std.proofs.Common.{rules}
use Rattle.std.proofs.lemmas.Int.{to_z-of_z}
use mir.Val.{SFits}
use Rattle.col_expr.proofs.operations.unary_column.Goals as goal

pub returns-in-ScalarRight : goal.returns-in-ScalarRight
returns-in-ScalarRight c =
    let fits : SFits w128 c.in-ScalarRight.value = search rules in
    let same = to_z-of_z w128 c.in-ScalarRight.value fits in
    let gives = rw same at c.scalar_right.ensures.column in
    record { answer = rw c.in-ScalarRight.is (c.at_node.ensures.answer _ gives) }

pub returns-in-ScalarLeft : goal.returns-in-ScalarLeft
returns-in-ScalarLeft c =
    let fits : SFits w128 c.in-ScalarLeft.value = search rules in
    let same = to_z-of_z w128 c.in-ScalarLeft.value fits in
    let gives = rw same at c.scalar_left.ensures.column in
    record { answer = rw c.in-ScalarLeft.is (c.at_node-in-ScalarLeft.ensures.answer _ gives) }

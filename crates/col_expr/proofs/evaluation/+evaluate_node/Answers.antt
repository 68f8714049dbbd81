use Rattle.std.proofs.Common.{◌∙◌}
use Rattle.col_model.specs.Chunked.{column_of, columns_of}
use Rattle.col_expr.specs.Node.{node_tree, over}
use Rattle.col_expr.specs.Tree.{Binary}
use Rattle.col_expr.specs.Numbers.{numbers_from}
use Rattle.col_expr.proofs.UnaryLemmas.{found_unary_from, steps_unary}
use Rattle.col_expr.proofs.BinaryLemmas.{found_binary_from, steps_binary}
use Rattle.col_expr.proofs.evaluation.+evaluate_node.Goals as goal

pub returns-in_ok-column-in-Unary-clause-found : goal.returns-in_ok-column-in-Unary-clause-found
returns-in_ok-column-in-Unary-clause-found g t c =
    rw (c.counted.ensures.answer, c.in-Unary.is)
    (found_unary_from (columns_of c.args.inputs.now) c.args.next.now
    c.take_number-number-in-Unary.result c.in-Unary.operation
    (node_tree c.in-Unary.operand.value) (column_of c.in_ok-column-in-Unary.column)
    c.unary_column.result
    (rw c.deref.ensures at (c.take_number-number-in-Unary.ensures.number
    ∙ c.in_ok-column-in-Unary.ensures.next))
    (rw c.deref.ensures at c.in_ok-column-in-Unary.ensures.found)
    c.unary_column.ensures.answer)

pub returns-in_ok-column-in-Unary-clause-steps : goal.returns-in_ok-column-in-Unary-clause-steps
returns-in_ok-column-in-Unary-clause-steps g t c =
    rw c.in-Unary.is
    (steps_unary (columns_of c.args.inputs.now) (numbers_from c.args.next.now
    (over c.in-Unary.operation (node_tree c.in-Unary.operand.value))) c.args.steps.now
    c.evaluate_node.new.steps _ c.in-Unary.operation (node_tree c.in-Unary.operand.value)
    c.counted.result
    (rw c.in-Unary.is at (returns-in_ok-column-in-Unary-clause-found g t c))
    (rw c.deref.ensures at c.in_ok-column-in-Unary.ensures.steps)
    c.counted.ensures.steps)

pub returns-in_ok-right-in-Binary-clause-found : goal.returns-in_ok-right-in-Binary-clause-found
returns-in_ok-right-in-Binary-clause-found g t c =
    rw (c.counted-in-Binary.ensures.answer, c.in-Binary.is)
    (found_binary_from (columns_of c.args.inputs.now) c.args.next.now
    c.evaluate_node-in-Binary.new.next c.take_number-number-in-Binary.result c.in-Binary.op
    (node_tree c.in-Binary.left.value) (node_tree c.in-Binary.right.value)
    (column_of c.in_ok-left-in-Binary.left) (column_of c.in_ok-right-in-Binary.right)
    c.binary_column.result
    (rw c.deref-in-Binary.ensures at c.in_ok-left-in-Binary.ensures.next)
    (rw c.deref-in-Binary-2.ensures at (c.take_number-number-in-Binary.ensures.number
    ∙ c.in_ok-right-in-Binary.ensures.next))
    (rw c.deref-in-Binary.ensures at c.in_ok-left-in-Binary.ensures.found)
    (rw c.deref-in-Binary-2.ensures at c.in_ok-right-in-Binary.ensures.found)
    c.binary_column.ensures.answer)

pub returns-in_ok-right-in-Binary-clause-steps : goal.returns-in_ok-right-in-Binary-clause-steps
returns-in_ok-right-in-Binary-clause-steps g t c =
    rw c.in-Binary.is
    (steps_binary (columns_of c.args.inputs.now) (numbers_from c.args.next.now
    (Binary c.in-Binary.op (node_tree c.in-Binary.left.value)
    (node_tree c.in-Binary.right.value))) c.args.steps.now c.evaluate_node-in-Binary.new.steps c.evaluate_node-in-Binary-2.new.steps _
    c.in-Binary.op (node_tree c.in-Binary.left.value) (node_tree c.in-Binary.right.value)
    c.counted-in-Binary.result
    (rw c.in-Binary.is at (returns-in_ok-right-in-Binary-clause-found g t c))
    (rw c.deref-in-Binary.ensures at c.in_ok-left-in-Binary.ensures.steps)
    (rw c.deref-in-Binary-2.ensures at c.in_ok-right-in-Binary.ensures.steps)
    c.counted-in-Binary.ensures.steps)

use Rattle.std.proofs.Common.{ap, ◌∙◌}
use Rattle.std.specs.Option.{option_copied, option_map}
use Rattle.col_model.specs.Chunked.{column_of, columns_of}
use Rattle.col_expr.specs.Node.{node_tree}
use Rattle.col_expr.specs.Plan.{interval_in}
use Rattle.col_expr.proofs.PlanNodeLemmas.{input_checked, unary_checked, unary_fails, binary_checked, left_fails, right_fails, column_at}
use Rattle.col_expr.proofs.check.+check_node.Goals as goal

pub returns-in-Input-clause-checked : goal.returns-in-Input-clause-checked
returns-in-Input-clause-checked t c =
    let inputs = c.args.inputs.now in
    rw c.in-Input.is (input_checked (columns_of inputs) c.args.plan.now c.args.next.now c.in-Input.index
    c.interval.result (option_map column_of (option_copied c.get.result)) c.input_part.result
    (c.interval.ensures.interval ∙ ap (interval_in c.args.plan.now) c.take_number-number.ensures.number)
    (ap (option_map column_of) c.get.ensures.column ∙ column_at inputs c.in-Input.index)
    c.input_part.ensures.part)

pub returns-in-Some-clause-checked : goal.returns-in-Some-clause-checked
returns-in-Some-clause-checked t c =
    let a = c.in-Unary in
    rw a.is (unary_checked (columns_of c.args.inputs.now) c.args.plan.now c.args.next.now
    c.take_number-number-in-Unary.result a.operation (node_tree a.operand.value) c.in-Some.below
    c.interval-in-Unary.result c.unary_image.result c.settled.result
    (rw c.deref.ensures at (c.take_number-number-in-Unary.ensures.number ∙ c.in-Some.ensures.next))
    (rw c.deref.ensures at c.in-Some.ensures.checked)
    c.interval-in-Unary.ensures.interval c.unary_image.ensures.typed c.unary_image.ensures.image
    c.settled.ensures.settled)

pub returns-in_default-clause-checked : goal.returns-in_default-clause-checked
returns-in_default-clause-checked t c =
    let a = c.in-Unary in
    rw a.is (unary_fails (columns_of c.args.inputs.now) c.args.plan.now c.args.next.now a.operation
    (node_tree a.operand.value) (rw c.deref.ensures at c.in_default.ensures.checked))

pub returns-in-Some-check_node-2-clause-checked : goal.returns-in-Some-check_node-2-clause-checked
returns-in-Some-check_node-2-clause-checked t c =
    let a = c.in-Binary in
    let left = c.in-Some-check_node in
    let right = c.in-Some-check_node-2 in
    rw a.is (binary_checked (columns_of c.args.inputs.now) c.args.plan.now c.args.next.now
    c.check_node-in-Binary.new.next c.take_number-number-in-Binary.result a.op (node_tree a.left.value)
    (node_tree a.right.value) left.left right.right c.interval-in-Binary.result c.binary_image.result
    c.settled-in-Binary.result
    (rw c.deref-in-Binary.ensures at left.ensures.next)
    (rw c.deref-in-Binary-2.ensures at (c.take_number-number-in-Binary.ensures.number ∙ right.ensures.next))
    (rw c.deref-in-Binary.ensures at left.ensures.checked)
    (rw c.deref-in-Binary-2.ensures at right.ensures.checked)
    c.interval-in-Binary.ensures.interval c.binary_image.ensures.typed c.binary_image.ensures.image
    c.settled-in-Binary.ensures.settled)

pub returns-in_default-check_node-clause-checked : goal.returns-in_default-check_node-clause-checked
returns-in_default-check_node-clause-checked t c =
    let a = c.in-Binary in
    rw a.is (left_fails (columns_of c.args.inputs.now) c.args.plan.now c.args.next.now a.op
    (node_tree a.left.value) (node_tree a.right.value)
    (rw c.deref-in-Binary.ensures at c.in_default-check_node.ensures.checked))

pub returns-in_default-check_node-2-clause-checked : goal.returns-in_default-check_node-2-clause-checked
returns-in_default-check_node-2-clause-checked t c =
    let a = c.in-Binary in
    let left = c.in-Some-check_node in
    let part = rw c.deref-in-Binary.ensures at left.ensures.checked in
    rw a.is (right_fails (columns_of c.args.inputs.now) c.args.plan.now c.args.next.now
    c.check_node-in-Binary.new.next a.op (node_tree a.left.value) (node_tree a.right.value)
    (rw c.deref-in-Binary.ensures at left.ensures.next) part.held
    (rw c.deref-in-Binary-2.ensures at c.in_default-check_node-2.ensures.checked))

use Rattle.std.proofs.Common.{ap, ◌∙◌}
use Rattle.std.specs.Option.{option_copied, option_map}
use Rattle.col_model.specs.Chunked.{column_of, columns_of}
use Rattle.col_expr.specs.Node.{node_tree}
use Rattle.col_expr.specs.PlanNode.{image_dtype, image_interval}
use Rattle.col_expr.specs.FoundPlan.{fitting}
use Rattle.col_expr.proofs.PlanNodeLemmas.{column_at}
use Rattle.col_expr.proofs.FoundNodeLemmas.{input_found, input_plan, unary_found, unary_plan, plan_ends, binary_found, binary_plan, on_some, if_some}
use Rattle.col_expr.proofs.found_plan.+cover_node.Goals as goal

pub returns-in-Input-clause-part : goal.returns-in-Input-clause-part
returns-in-Input-clause-part t c =
    let inputs = c.args.inputs.now in
    let at = ap (option_map column_of) c.get.ensures.column ∙ column_at inputs c.in-Input.index in
    rw c.in-Input.is (if_some c.covered.result (λ part covered.
    input_found (columns_of inputs) c.in-Input.index (option_map column_of (option_copied c.get.result)) c.input_image.result part
    at c.input_image.ensures.typed c.input_image.ensures.image covered) c.covered.ensures.part)

pub returns-in-Input-clause-plan : goal.returns-in-Input-clause-plan
returns-in-Input-clause-plan t c = λ h.
    let inputs = c.args.inputs.now in
    let at = ap (option_map column_of) c.get.ensures.column ∙ column_at inputs c.in-Input.index in
    rw c.in-Input.is (input_plan (columns_of inputs) c.args.next.now c.take_number-number.result c.in-Input.index
    (option_map column_of (option_copied c.get.result)) c.input_image.result c.args.plan.now c.covered.new.plan c.covered.result
    c.take_number-number.ensures.number at c.input_image.ensures.typed c.input_image.ensures.image h c.covered.ensures.plan)

pub returns-in-Some-clause-part : goal.returns-in-Some-clause-part
returns-in-Some-clause-part t c =
    let a = c.in-Unary in
    let found = unary_found (columns_of c.args.inputs.now) a.operation (node_tree a.operand.value) c.in-Some.below c.unary_image.result
    (rw c.deref.ensures at c.in-Some.ensures.part) c.unary_image.ensures.typed c.unary_image.ensures.image in
    rw a.is (if_some c.covered-in-Unary.result found.part c.covered-in-Unary.ensures.part)

pub returns-in-Some-clause-plan : goal.returns-in-Some-clause-plan
returns-in-Some-clause-plan t c = λ h.
    let a = c.in-Unary in
    let inputs = columns_of c.args.inputs.now in
    let e = node_tree a.operand.value in
    let found = unary_found inputs a.operation e c.in-Some.below c.unary_image.result
    (rw c.deref.ensures at c.in-Some.ensures.part) c.unary_image.ensures.typed c.unary_image.ensures.image in
    let number = c.take_number-number-in-Unary.result in
    let is = rw c.deref.ensures at (c.take_number-number-in-Unary.ensures.number ∙ c.in-Some.ensures.next) in
    let below = rw c.deref.ensures at c.in-Some.ensures.plan in
    let ends = plan_ends inputs c.args.next.now number e c.args.plan.now c.cover_node.new.plan is (below h) h in
    rw a.is (on_some c.covered-in-Unary.result (λ last.
    unary_plan inputs c.args.next.now number a.operation e c.args.plan.now c.cover_node.new.plan c.covered-in-Unary.new.plan
    (fitting (image_dtype c.unary_image.result) (image_interval c.unary_image.result)) is (below h) found.fits last)
    (c.covered-in-Unary.ensures.plan ends))

pub returns-in-Some-cover_node-2-clause-part : goal.returns-in-Some-cover_node-2-clause-part
returns-in-Some-cover_node-2-clause-part t c =
    let a = c.in-Binary in
    let left = rw c.deref-in-Binary.ensures at c.in-Some-cover_node.ensures.part in
    let right = rw c.deref-in-Binary-2.ensures at c.in-Some-cover_node-2.ensures.part in
    let found = binary_found (columns_of c.args.inputs.now) a.op (node_tree a.left.value) (node_tree a.right.value)
    c.in-Some-cover_node.left c.in-Some-cover_node-2.right c.binary_image.result left right c.binary_image.ensures.typed c.binary_image.ensures.image in
    rw a.is (if_some c.covered-in-Binary.result found.part c.covered-in-Binary.ensures.part)

pub returns-in-Some-cover_node-2-clause-plan : goal.returns-in-Some-cover_node-2-clause-plan
returns-in-Some-cover_node-2-clause-plan t c = λ h.
    let a = c.in-Binary in
    let inputs = columns_of c.args.inputs.now in
    let l = node_tree a.left.value in
    let r = node_tree a.right.value in
    let left = rw c.deref-in-Binary.ensures at c.in-Some-cover_node.ensures.part in
    let right = rw c.deref-in-Binary-2.ensures at c.in-Some-cover_node-2.ensures.part in
    let found = binary_found inputs a.op l r c.in-Some-cover_node.left c.in-Some-cover_node-2.right c.binary_image.result left right
    c.binary_image.ensures.typed c.binary_image.ensures.image in
    let next = rw c.deref-in-Binary.ensures at c.in-Some-cover_node.ensures.next in
    let is = rw c.deref-in-Binary-2.ensures at (c.take_number-number-in-Binary.ensures.number ∙ c.in-Some-cover_node-2.ensures.next) in
    let one = rw c.deref-in-Binary.ensures at c.in-Some-cover_node.ensures.plan in
    let two = rw c.deref-in-Binary-2.ensures at c.in-Some-cover_node-2.ensures.plan in
    let second = c.cover_node-in-Binary.new.next in
    let number = c.take_number-number-in-Binary.result in
    let ends = plan_ends inputs c.args.next.now second l c.args.plan.now c.cover_node-in-Binary.new.plan next (one h) h in
    let last = plan_ends inputs second number r c.cover_node-in-Binary.new.plan c.cover_node-in-Binary-2.new.plan is (two ends) ends in
    rw a.is (on_some c.covered-in-Binary.result (λ entry.
    binary_plan inputs c.args.next.now second number a.op l r c.args.plan.now c.cover_node-in-Binary.new.plan c.cover_node-in-Binary-2.new.plan
    c.covered-in-Binary.new.plan (fitting (image_dtype c.binary_image.result) (image_interval c.binary_image.result)) next is
    (one h) (two ends) found.fits entry)
    (c.covered-in-Binary.ensures.plan last))

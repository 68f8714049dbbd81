use Rattle.std.proofs.Common.{◌≡◌, ◌+◌, ◌∙◌, arith, subst, sym}
use Rattle.std.proofs.lemmas.Result.{err_from_is_err_and}
use Rattle.col_model.specs.Chunked.{column_of, columns_of}
use Rattle.col_expr.specs.Node.{node_tree}
use Rattle.col_expr.specs.Folded.{Numbered, plan_if, folded_by}
use Rattle.col_expr.specs.Numbers.{Join, numbers_from}
use Rattle.col_expr.specs.Tree.{Binary, node_count}
use Rattle.col_expr.specs.Waiting.{IsFolding}
use Rattle.col_expr.proofs.FoldNodes.{node_over, node_refused, both_ready, node_both, on_ok-always}
use Rattle.col_expr.proofs.folded.+fold_node.Goals as goal

pub returns-in_err-below-in-Unary-clause-folded : goal.returns-in_err-below-in-Unary-clause-folded
returns-in_err-below-in-Unary-clause-folded g t c =
    let p = err_from_is_err_and c.from_residual.result c.from_residual.ensures.1 in
    rw (p.1, p.2, c.in-Unary.is)
    (node_refused (columns_of c.args.inputs.now) (plan_if c.args.valid c.args.plan.now)
    c.args.next.now c.in-Unary.operation (node_tree c.in-Unary.operand.value) _
    (rw c.deref.ensures at c.in_err-below-in-Unary.ensures.folded))

pub returns-in_ok-right-in-Binary-2-clause-folded :
    goal.returns-in_ok-right-in-Binary-2-clause-folded
returns-in_ok-right-in-Binary-2-clause-folded g t c =
    let inputs = columns_of c.args.inputs.now in
    let plan = plan_if c.args.valid c.args.plan.now in
    let l = node_tree c.in-Binary.left.value in
    let r = node_tree c.in-Binary.right.value in
    let left = c.in_ok-left-in-Binary-2.ensures.ready inputs
    (folded_by inputs plan (numbers_from c.args.next.now l) l) c.args.steps.now
    (rw c.deref-in-Binary.ensures at c.in_ok-left-in-Binary.ensures.folded) in
    let right = c.in_ok-right-in-Binary-2.ensures.ready inputs
    (folded_by inputs plan (numbers_from c.fold_node-in-Binary.new.next r) r)
    c.settled.new.steps
    (rw c.deref-in-Binary-2.ensures at c.in_ok-right-in-Binary.ensures.folded) in
    rw c.in-Binary.is
    (node_both inputs plan c.args.next.now c.fold_node-in-Binary.new.next
    c.take_number-number-in-Binary.result c.in-Binary.op l r c.args.steps.now c.counted.new.steps
    c.none_waits-in-Binary.result
    (rw c.deref-in-Binary.ensures at c.in_ok-left-in-Binary.ensures.next)
    (rw c.deref-in-Binary-2.ensures at (c.take_number-number-in-Binary.ensures.number
    ∙ c.in_ok-right-in-Binary.ensures.next))
    (c.none_waits-in-Binary.ensures.waiting inputs (record {
      tree = Binary c.in-Binary.op (folded_by inputs plan (numbers_from c.args.next.now l) l).tree
          (folded_by inputs plan (numbers_from c.fold_node-in-Binary.new.next r) r).tree;
      numbers = Join c.take_number-number-in-Binary.result
          (folded_by inputs plan (numbers_from c.args.next.now l) l).numbers
          (folded_by inputs plan (numbers_from c.fold_node-in-Binary.new.next r) r).numbers;
    }) c.args.steps.now c.counted.new.steps
    (rw c.counted.ensures.answer
    (both_ready inputs (folded_by inputs plan (numbers_from c.args.next.now l) l)
    (folded_by inputs plan (numbers_from c.fold_node-in-Binary.new.next r) r)
    c.take_number-number-in-Binary.result c.in-Binary.op
    (column_of c.in_ok-left-in-Binary-2.left) (column_of c.in_ok-right-in-Binary-2.right)
    c.args.steps.now c.settled.new.steps c.settled-in-Binary.new.steps c.counted.new.steps
    c.binary_column.result left.found right.found c.binary_column.ensures.answer left.counted
    right.counted (rw c.counted.ensures.answer at c.counted.ensures.steps)))
    (λ change h. cc)))

pub returns-in_ok-below-in-Unary-clause-folded : goal.returns-in_ok-below-in-Unary-clause-folded
returns-in_ok-below-in-Unary-clause-folded g t c =
    let inputs = columns_of c.args.inputs.now in
    let plan = plan_if c.args.valid c.args.plan.now in
    let tree = node_tree c.in-Unary.operand.value in
    let number = rw c.deref.ensures at
    (c.take_number-number-in-Unary.ensures.number ∙ c.in_ok-below-in-Unary.ensures.next) in
    let P : Numbered → Type 0 = λ f.
    IsFolding inputs f c.args.steps.now c.fold_unary.new.steps c.fold_unary.result in
    rw c.in-Unary.is
    (subst P (sym (node_over inputs plan c.args.next.now c.take_number-number-in-Unary.result
    c.in-Unary.operation tree number))
    (c.fold_unary.ensures.folded inputs
    (folded_by inputs plan (numbers_from c.args.next.now tree) tree) c.args.steps.now
    (rw c.deref.ensures at c.in_ok-below-in-Unary.ensures.folded)))

pub returns-in_ok-right-in-Binary-2-clause-next : goal.returns-in_ok-right-in-Binary-2-clause-next
returns-in_ok-right-in-Binary-2-clause-next g t c =
    let l = node_tree c.in-Binary.left.value in
    let r = node_tree c.in-Binary.right.value in
    let first : c.fold_node-in-Binary.new.next ≡ c.args.next.now + node_count l =
    rw c.deref-in-Binary.ensures at c.in_ok-left-in-Binary.ensures.next in
    let second : c.fold_node-in-Binary-2.new.next ≡ c.fold_node-in-Binary.new.next + node_count r =
    rw c.deref-in-Binary-2.ensures at c.in_ok-right-in-Binary.ensures.next in
    let last : c.take_number-number-in-Binary.new.next ≡ c.fold_node-in-Binary-2.new.next + 1 =
    c.take_number-number-in-Binary.ensures.next in
    let all : c.take_number-number-in-Binary.new.next
    ≡ c.args.next.now + (node_count l + node_count r + 1) = omega (arith, first, second, last) in
    rw c.in-Binary.is (on_ok-always _ c.none_waits-in-Binary.result all)

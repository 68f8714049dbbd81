use Rattle.col_model.specs.OperationNames.{name_of_op, unsupported}
use Rattle.col_model.specs.OperatorTable.{listed_rule}
use Rattle.col_expr.proofs.PlanNodeLemmas.{pair_typed, pair_imaged}
use Rattle.col_expr.proofs.node_image.binary_image.Goals as goal

pub returns-in-Typed-Typed-clause-typed : goal.returns-in-Typed-Typed-clause-typed
returns-in-Typed-Typed-clause-typed c =
    let a = c.in-Typed-Typed in
    rw (a.is-0, a.is-1, c.operator_interval.ensures.interval)
    (pair_typed (listed_rule c.args.op a.left a.right) (unsupported (name_of_op c.args.op) a.left a.right) a.p a.q)

pub returns-in-Typed-Typed-clause-image : goal.returns-in-Typed-Typed-clause-image
returns-in-Typed-Typed-clause-image c =
    let a = c.in-Typed-Typed in
    rw (a.is-0, a.is-1, c.operator_interval.ensures.interval)
    (pair_imaged (listed_rule c.args.op a.left a.right) (unsupported (name_of_op c.args.op) a.left a.right) a.p a.q)

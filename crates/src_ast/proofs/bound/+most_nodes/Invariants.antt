use Rattle.std.proofs.Common.{◌≡◌, max, drop}
use Rattle.src_ast.specs.View as view
use Rattle.src_ast.specs.Bound as spec
use Rattle.src_ast.proofs.bound.+most_nodes.Given as goal

abbrev pub invariant-most_nodes-loop-stmt : goal.invariant-most_nodes-loop-stmt
invariant-most_nodes-loop-stmt l =
    max l.most (spec.most_nodes_of (view.statements (drop l.stmt-index l.stmts))) ≡ spec.most_nodes_of
    (view.statements l.stmts)

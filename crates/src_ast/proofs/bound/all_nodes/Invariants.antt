use Rattle.std.proofs.Common.{◌≡◌, ◌+◌, map, drop}
use Rattle.src_ast.specs.View as view
use Rattle.src_ast.specs.Bound as spec
use Rattle.src_ast.proofs.bound.all_nodes.Given as goal

abbrev pub invariant-loop-arg : goal.invariant-loop-arg
invariant-loop-arg l = l.sum + spec.nodes_of (map view.expression (drop l.arg-index l.args)) ≡ spec.nodes_of
    (map view.expression l.args)

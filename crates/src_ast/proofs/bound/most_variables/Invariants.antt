use Rattle.std.proofs.Common.{◌≡◌, max, drop}
use Rattle.src_ast.specs.View as view
use Rattle.src_ast.specs.Bound as spec
use Rattle.src_ast.proofs.bound.most_variables.Given as goal

abbrev pub invariant-loop-item : goal.invariant-loop-item
invariant-loop-item l = max l.most (spec.most_variables (view.parts (drop l.item-index l.items)))
    ≡ spec.most_variables (view.parts l.items)

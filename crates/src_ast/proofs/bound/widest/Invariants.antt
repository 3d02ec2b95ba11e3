use Rattle.std.proofs.Common.{◌≡◌, max, drop}
use Rattle.src_ast.specs.View as view
use Rattle.src_ast.specs.Bound as spec
use Rattle.src_ast.proofs.bound.widest.Given as goal

abbrev pub invariant-loop-item : goal.invariant-loop-item
invariant-loop-item l = max l.most (spec.widest (view.parts (drop l.item-index l.items))) ≡ spec.widest
    (view.parts l.items)

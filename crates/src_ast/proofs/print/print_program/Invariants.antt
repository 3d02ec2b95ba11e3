use Rattle.std.proofs.Common.{◌≡◌, ◌++◌, drop}
use Rattle.src_ast.specs.View as view
use Rattle.src_ast.specs.Printed as spec
use Rattle.src_ast.proofs.print.print_program.Given as goal

abbrev pub invariant-loop-item : goal.invariant-loop-item
invariant-loop-item l = l.out ++ spec.printed_form (view.parts (drop l.item-index l.item-items))
    ≡ spec.printed_form (view.parts l.item-items)

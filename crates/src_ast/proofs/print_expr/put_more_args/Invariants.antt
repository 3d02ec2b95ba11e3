use Rattle.std.proofs.Common.{◌≡◌, ◌++◌, drop, map}
use Rattle.src_ast.specs.View as view
use Rattle.src_ast.specs.Printed as spec
use Rattle.src_ast.specs.Commas.{comma_text}
use Rattle.src_ast.proofs.print_expr.put_more_args.Given as goal

abbrev pub invariant-loop-arg : goal.invariant-loop-arg
invariant-loop-arg l =
    l.out ++ comma_text (spec.argument_texts (map view.expression (drop l.arg-index l.args))) ≡ l.initial.out
    ++ comma_text (spec.argument_texts (map view.expression l.args))

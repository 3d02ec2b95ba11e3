use Rattle.std.proofs.Common.{◌≡◌, ◌++◌, drop}
use Rattle.src_ast.specs.Printed as spec
use Rattle.src_ast.specs.Commas.{comma_text}
use Rattle.src_ast.proofs.print_expr.put_more_names.Given as goal

abbrev pub invariant-loop-name : goal.invariant-loop-name
invariant-loop-name l = l.out ++ comma_text (spec.name_texts (drop l.name-index l.names)) ≡ l.initial.out
    ++ comma_text (spec.name_texts l.names)

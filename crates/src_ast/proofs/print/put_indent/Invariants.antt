use Rattle.std.proofs.Common.{◌≡◌, ◌++◌}
use Rattle.src_ast.specs.Printed as spec
use Rattle.src_ast.proofs.print.put_indent.Given as goal

abbrev pub invariant-loop : goal.invariant-loop
invariant-loop l = l.out ≡ l.initial.out ++ spec.indent l.counter

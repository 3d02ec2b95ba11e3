use Rattle.std.proofs.Common.{◌≡◌, ◌++◌, drop}
use Rattle.src_ast.specs.View as view
use Rattle.src_ast.specs.Printed as spec
use Rattle.src_ast.proofs.print.+put_stmts.Given as goal

abbrev pub invariant-put_stmts-loop-stmt : goal.invariant-put_stmts-loop-stmt
invariant-put_stmts-loop-stmt l =
    l.out ++ spec.body_lines l.level (view.statements (drop l.stmt-index l.stmts)) ≡ l.initial.out
    ++ spec.body_lines l.level (view.statements l.stmts)

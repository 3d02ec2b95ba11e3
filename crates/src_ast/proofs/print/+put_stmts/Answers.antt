use Rattle.std.proofs.Common.{rules, ◌<◌, length, arith, add-one}
use Rattle.std.proofs.lemmas.Grind.{common_steps}
use Rattle.src_ast.specs.View as view
use Rattle.src_ast.specs.Printed as spec
use Rattle.src_ast.proofs.Views.{at_if, at_while}
use Rattle.src_ast.proofs.Lines.{else_full}
use Rattle.src_ast.proofs.print.+put_stmts.Goals as goal

pub put_stmt-returns-in_ok-put_indent-in-While : goal.put_stmt-returns-in_ok-put_indent-in-While
put_stmt-returns-in_ok-put_indent-in-While t c =
    let e = at_while c.args.stmt.now c.in-While.test c.in-While.body c.in-While.is in
    grind (arith, common_steps, e, add-one)

pub put_stmt-returns-in_ok-put_stmts-in-If : goal.put_stmt-returns-in_ok-put_stmts-in-If
put_stmt-returns-in_ok-put_stmts-in-If t c =
    let e = at_if c.args.stmt.now c.in-If.test c.in-If.first c.in-If.second c.in-If.is in
    grind (arith, common_steps, e, add-one)

pub put_else-returns : goal.put_else-returns
put_else-returns t c =
    let some : 0 < length c.args.stmts.now = search rules in
    let e = else_full c.args.level c.args.stmts.now
    (spec.body_lines c.args.inner (view.statements c.args.stmts.now)) some in
    grind (arith, common_steps, e)

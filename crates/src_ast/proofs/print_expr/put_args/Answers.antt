use Rattle.std.proofs.Common.{arith}
use Rattle.std.proofs.lemmas.Grind.{common_steps}
use Rattle.src_ast.proofs.Lines.{args_from}
use Rattle.src_ast.proofs.print_expr.put_args.Goals as goal

pub returns-in_ok-put_expr-in-len1-up : goal.returns-in_ok-put_expr-in-len1-up
returns-in_ok-put_expr-in-len1-up c =
    let e = args_from c.args.args.now c.first-item.result (omega arith) c.first-item.is in
    grind (arith, common_steps, e)

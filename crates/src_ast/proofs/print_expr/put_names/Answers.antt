use Rattle.std.proofs.Common.{arith}
use Rattle.std.proofs.lemmas.Grind.{common_steps}
use Rattle.src_ast.proofs.Lines.{names_from}
use Rattle.src_ast.proofs.print_expr.put_names.Goals as goal

pub returns-in_ok-extend-in-len1-up : goal.returns-in_ok-extend-in-len1-up
returns-in_ok-extend-in-len1-up c =
    let e = names_from c.args.names.now c.first-item.result (omega arith) c.first-item.is in
    grind (arith, common_steps, e)

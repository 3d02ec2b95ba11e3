use Rattle.std.proofs.Common.{arith}
use Rattle.std.proofs.lemmas.Grind.{common_steps}
use Rattle.src_ast.proofs.Lines.{indent_more}
use Rattle.src_ast.proofs.print.put_indent.Goals as goal

pub loop-preserved : goal.loop-preserved
loop-preserved c =
    let e = indent_more c.loop.counter in
    grind (arith, common_steps, e)

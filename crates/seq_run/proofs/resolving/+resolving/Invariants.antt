use Rattle.std.proofs.Common.{◌≡◌, take}
use Rattle.src_ast.specs.View as ast
use Rattle.src_ast.specs.Meaning.{Scope}
use Rattle.seq_run.specs.Resolving as resolving
use Rattle.seq_run.specs.View as view
use Rattle.seq_run.specs.Tables.{AreNames}
use Rattle.seq_run.proofs.resolving.+resolving.Given as goal

abbrev pub invariant-steps-loop-s : goal.invariant-steps-loop-s
invariant-steps-loop-s l = (scope : Scope) → AreNames scope l.names → view.steps l.list.items ≡ resolving.all
    scope (ast.statements (take l.s-index l.body))

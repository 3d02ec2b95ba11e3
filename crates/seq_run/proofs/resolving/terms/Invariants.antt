use Rattle.std.proofs.Common.{◌≡◌, map, take}
use Rattle.src_ast.specs.View as ast
use Rattle.src_ast.specs.Meaning.{Scope}
use Rattle.seq_run.specs.Resolving as resolving
use Rattle.cfg_core.specs.View as graph
use Rattle.seq_run.specs.Tables.{AreNames}
use Rattle.seq_run.proofs.resolving.terms.Given as goal

abbrev pub invariant-loop-e : goal.invariant-loop-e
invariant-loop-e l = (scope : Scope) → AreNames scope l.names → map graph.term l.list.items ≡ resolving.terms
    scope (map ast.expression (take l.e-index l.es))

use Rattle.std.proofs.Common.{◌≡◌, List, take}
use Rattle.src_ast.specs.declared.lexeme.Name.{Name}
use Rattle.src_ast.specs.View as ast
use Rattle.src_ast.specs.Meaning.{procs_of}
use Rattle.seq_run.specs.Resolving as resolving
use Rattle.seq_run.specs.Tables.{IsTable}
use Rattle.seq_run.specs.View as view
use Rattle.seq_run.proofs.programs.procs.Given as goal

abbrev pub invariant-loop-item : goal.invariant-loop-item
invariant-loop-item l = record {
  arrays : l.names.arrays ≡ l.initial.names.arrays;
  procs : l.names.procs ≡ l.initial.names.procs;
  list : (arrays procs : List Name) → IsTable 1 arrays l.initial.names.arrays
      → IsTable 0 procs l.initial.names.procs → view.procs l.list.items ≡ resolving.procs arrays procs
      (procs_of (ast.parts (take l.item-index l.items)));
}

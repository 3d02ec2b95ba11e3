use Rattle.std.proofs.Common.{take}
use Rattle.src_ast.specs.View as ast
use Rattle.src_ast.specs.Meaning.{arrays_of, procs_of, names_of}
use Rattle.seq_run.specs.Tables.{IsTable}
use Rattle.seq_run.proofs.programs.declared.Given as goal

abbrev pub invariant-loop-item : goal.invariant-loop-item
invariant-loop-item l = record {
  arrays : IsTable 1 (arrays_of (ast.parts (take l.item-index l.items))) l.arrays;
  procs : IsTable 0 (names_of (procs_of (ast.parts (take l.item-index l.items)))) l.procs;
}

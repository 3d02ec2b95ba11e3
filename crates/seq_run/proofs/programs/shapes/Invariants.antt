use Rattle.std.proofs.Common.{◌≡◌, take}
use Rattle.src_ast.specs.View as ast
use Rattle.src_ast.specs.Meaning.{arrays_of, lengths_of}
use Rattle.seq_run.specs.View as view
use Rattle.seq_run.proofs.programs.shapes.Given as goal
use Rattle.src_ast.specs.Printed.{name_texts}

abbrev pub invariant-loop-item : goal.invariant-loop-item
invariant-loop-item l = record {
  names : view.names l.list.items ≡ name_texts (arrays_of (ast.parts (take l.item-index l.items)));
  lengths : view.lengths l.list.items ≡ lengths_of (ast.parts (take l.item-index l.items));
}

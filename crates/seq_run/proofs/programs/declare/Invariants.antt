use Rattle.std.proofs.Common.{◌≡◌, ◌+◌, ℕ, List, ◌++◌, take}
use Rattle.src_ast.specs.declared.lexeme.Name.{Name}
use Rattle.seq_run.specs.Tables.{IsTable}
use Rattle.seq_run.proofs.programs.declare.Given as goal

abbrev pub invariant-loop-name : goal.invariant-loop-name
invariant-loop-name l = record {
  next : l.table.next ≡ l.initial.table.next + l.name-index;
  table : (first : ℕ) (names : List Name) → IsTable first names l.initial.table
      → IsTable first (names ++ take l.name-index l.list) l.table;
}

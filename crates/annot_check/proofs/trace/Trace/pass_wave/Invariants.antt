use Rattle.std.proofs.Common.{◌≡◌, ◌+◌, length}
use Rattle.annot_check.specs.Table.{AllPassed, Ready, Shut, free}
use Rattle.annot_check.proofs.Slotted.Whole.{InTable, AllIn}
use Rattle.annot_check.proofs.trace.Trace.pass_wave.Given as goal

abbrev pub invariant-loop-number : goal.invariant-loop-number
invariant-loop-number l = record {
  image : l.self.image.now ≡ l.fn.self.image.now;
  ready : Ready l.self;
  shut : Shut l.self;
  all_passed : AllPassed l.self l.first l.passed.items;
  todo_in : AllIn l.self l.self.todo.items;
  passed_in : AllIn l.self l.passed.items;
  entered : InTable l.self l.first;
}

abbrev pub decreases-loop-number : goal.decreases-loop-number
decreases-loop-number l = free l.self.table.items + length l.self.todo.items

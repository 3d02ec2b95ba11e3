use Rattle.std.proofs.Common.{◌≡◌, ◌+◌, drop, map}
use Rattle.ws_isa.specs.View as view
use Rattle.ws_isa.specs.Sound.{none_open, all_opened}
use Rattle.annot_check.specs.Runs.{advance_list}
use Rattle.annot_check.specs.Open.{look, OpenOk, Moved}
use Rattle.annot_check.proofs.advances.open_advances.Given as goal

abbrev pub invariant-loop-instr : goal.invariant-loop-instr
invariant-loop-instr l = record {
  number : l.number ≡ l.first + l.instr-index;
  ok : OpenOk l.held;
  moved : Moved l.fn.held l.held;
  low : l.held.low ≡ l.fn.held.low;
  opened : all_opened (advance_list (map view.instr (drop l.instr-index l.instrs)) l.number) (look l.held) ≡
      all_opened (advance_list (map view.instr l.instrs) l.first) none_open;
}

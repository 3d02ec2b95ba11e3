use Rattle.std.proofs.Common.{◌≡◌, ◌+◌, drop, map}
use Rattle.ws_isa.specs.View as view
use Rattle.ws_isa.specs.Shows.{crossed}
use Rattle.ws_isa.proofs.table.PortValues.cross.Given as goal

abbrev pub invariant-loop-i : goal.invariant-loop-i
invariant-loop-i l = record {
  operands : crossed (map view.pad l.pads) l.choice (map view.instr (drop l.i l.instrs)) (l.first + l.i)
      l.self.results l.self.operands ≡ crossed (map view.pad l.pads) l.choice (map view.instr l.instrs)
      l.first l.initial.self.results l.initial.self.operands;
  results : l.self.results ≡ l.initial.self.results;
}

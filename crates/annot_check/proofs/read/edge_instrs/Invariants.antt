use Rattle.std.proofs.Common.{◌++◌, drop, map}
use Rattle.ws_isa.specs.View as view
use Rattle.annot_check.specs.Runs.{SameEdges}
use Rattle.annot_check.proofs.read.edge_instrs.Given as goal

abbrev pub invariant-loop-instr : goal.invariant-loop-instr
invariant-loop-instr l = SameEdges (map view.instr l.list.items ++
    map view.instr (drop l.instr-index l.instrs)) (map view.instr l.instrs)

use Rattle.std.proofs.Common.{◌≡◌, ◌++◌, drop, map}
use Rattle.ws_isa.specs.View as view
use Rattle.ws_isa.specs.Image.{is_advance_op}
use Rattle.annot_check.proofs.facts.add_block.Given as goal

abbrev pub invariant-loop-instr : goal.invariant-loop-instr
invariant-loop-instr l = record {
  ops : l.facts.ops.items ++ map (λ i. i.op) (map view.instr (drop l.instr-index l.block.instrs.items)) ≡
      l.fn.facts.ops.items ++ map (λ i. i.op) (map view.instr l.block.instrs.items);
  advances : l.facts.advances.items ++ map (λ i. is_advance_op i.op) (map view.instr
      (drop l.instr-index l.block.instrs.items)) ≡ l.fn.facts.advances.items ++ map (λ i. is_advance_op i.op)
      (map view.instr l.block.instrs.items);
  waves : l.facts.waves.items ++ map (λ i. l.block.wave)
      (map view.instr (drop l.instr-index l.block.instrs.items)) ≡ l.fn.facts.waves.items ++ map
      (λ i. l.block.wave) (map view.instr l.block.instrs.items);
}

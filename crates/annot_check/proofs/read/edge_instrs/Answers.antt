use Rattle.std.proofs.Common.{◌∙◌, Vec, Global, refl, ap}
use Rattle.ws_isa.specs.declared.instr.Instr.{Instr}
use Rattle.annot_check.proofs.Shaped.Exits.{edges_push, edges_skip}
use Rattle.annot_check.proofs.read.edge_instrs.Goals.{then-opens_on_edges+in_ok-copy+in_ok-push}
use Rattle.annot_check.proofs.read.edge_instrs.Goals.{else-opens_on_edges}
use Rattle.annot_check.proofs.read.edge_instrs.Goals as goal

pub loop-instr-init : goal.loop-instr-init
loop-instr-init c pads r = rw c.new-list.ensures.items refl

pub loop-instr-preserved : goal.loop-instr-preserved
loop-instr-preserved c = elim c.if-opens_on_edges.branch [
  | then-opens_on_edges+in_ok-copy+in_ok-push w ↦ edges_push c.args.instrs.now c.loop-instr.list.items
      c.if-opens_on_edges.list.items c.loop-instr.instr-index c.instr-item.result w.in_ok-copy.field-0
      c.loop-instr-test.true c.instr-item.is
      (ap (λ (v : Vec Instr Global). v.items) w.list-is ∙ w.in_ok-push.ensures.items)
      w.in_ok-copy.ensures c.loop-instr.invariant
  | else-opens_on_edges w ↦ rw w.list-is (edges_skip c.args.instrs.now c.loop-instr.list.items
      c.loop-instr.instr-index c.instr-item.result c.loop-instr-test.true c.instr-item.is
      (c.opens_on_edges.ensures w.if-opens_on_edges.false) c.loop-instr.invariant)
]

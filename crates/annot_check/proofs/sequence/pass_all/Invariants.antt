use Rattle.std.proofs.Common.{◌≡◌, ◌+◌}
use Rattle.ws_isa.specs.View as view
use Rattle.annot_check.specs.Seen.{op_with, PassState}
use Rattle.annot_check.proofs.sequence.pass_all.Given as goal

abbrev pub invariant-loop-instr : goal.invariant-loop-instr
invariant-loop-instr l = record {
  op : l.op ≡ l.first + l.instr-index;
  state : PassState (view.image l.image) l.number l.fn.start (op_with l.fn.seen) l.op l.lasts
      (op_with l.seen);
}

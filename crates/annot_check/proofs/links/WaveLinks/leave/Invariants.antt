use Rattle.annot_check.specs.Seen.{OrderReady, LeaveState, SameOrder, order_image, lasts_at}
use Rattle.annot_check.proofs.links.WaveLinks.leave.Given as goal

abbrev pub invariant-loop-choice : goal.invariant-loop-choice
invariant-loop-choice l = record {
  same : SameOrder l.fn.self l.self;
  ready : OrderReady l.self;
  left : LeaveState (order_image l.fn.self) (lasts_at l.fn.self.table.items)
      (lasts_at l.self.table.items) l.number l.choice l.lasts;
}

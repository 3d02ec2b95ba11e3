use Rattle.annot_check.proofs.Shaped.Shapes.{has_here}
use Rattle.annot_check.proofs.facts.Facts.pad_leads.Goals as goal

pub returns-then-not-is_advance_of-clause-no : goal.returns-then-not-is_advance_of-clause-no
returns-then-not-is_advance_of-clause-no c x all = c.is_advance_of.ensures.no c.if-not-is_advance_of.true (all
    _ _ (has_here c.args.dests.now c.loop-dest.dest-index (record {
      instr = 0;
      port = 0;
    }) c.loop-dest-test.true c.loop-dest.invariant.here))

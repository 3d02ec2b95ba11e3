use Rattle.std.proofs.Common.{refl, arith}
use Rattle.annot_check.specs.Table.{image_of}
use Rattle.annot_check.proofs.Slotted.Entries.{advances_known, base_ok, block_room, instrs_count, instrs_read}
use Rattle.annot_check.proofs.Slotted.Entries.{ready_stays}
use Rattle.annot_check.proofs.Slotted.Whole.{reached_again}
use Rattle.annot_check.proofs.trace.Trace.begin_wave.Goals as goal

pub advance_set-requires-clause-on : goal.advance_set-requires-clause-on
advance_set-requires-clause-on c = rw c.requires.ready.size (block_room (image_of c.args.self.now)
    c.args.first _ _ c.requires.came.here (c.requires.ready.starts_are.1 c.args.first
    (omega (arith, c.requires.came.here.1))) (instrs_count (image_of c.args.self.now) c.args.first
    c.block.result.now c.as_slice-instrs.result.now c.block.ensures c.as_slice-instrs.ensures.value))

pub put-requires-clause-ready : goal.put-requires-clause-ready
put-requires-clause-ready c = ready_stays c.args.self.now _ c.requires.ready c.in_ok-set.ensures.moved.kept
    c.in_ok-set.ensures.moved.depth refl refl c.in_ok-set.ensures.moved.size (base_ok c.advance_set.new.held
    c.in_ok-set.set c.in_ok-set.ensures.ok c.in_ok-set.ensures.there) refl

pub put-requires-clause-reached : goal.put-requires-clause-reached
put-requires-clause-reached c = reached_again _ c.args.first _ c.requires.came c.in_ok-set.ensures.there
    (advances_known (image_of c.args.self.now) c.args.first _ _ _ c.requires.came.here (instrs_read (image_of
    c.args.self.now) c.args.first c.block.result.now c.as_slice-instrs.result.now c.block.ensures
    c.as_slice-instrs.ensures.value) (c.requires.ready.starts_are.1 c.args.first
    (omega (arith, c.requires.came.here.1))) c.in_ok-set.ensures.advances)

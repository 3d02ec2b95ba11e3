use Rattle.std.proofs.Common.{length, map, arith}
use Rattle.wave_gen.specs.View as view
use Rattle.wave_gen.specs.Plans.{blocks_of}
use Rattle.wave_gen.proofs.Tables.Numberings.{blocks_next}
use Rattle.wave_gen.proofs.draft.number_blocks.Goals as goal

pub loop-place-preserved : goal.loop-place-preserved
loop-place-preserved c width kept numbers =
    let ds = c.args.plans.now in let i = c.loop-place.place in
    blocks_next width ds c.args.numbers.now c.args.kept.now i c.index-plans-place.result
    c.index-kept-kept.result c.loop-place.blocks.items c.push.new.self.items c.in_ok-block.block
    (blocks_of width (map view.plan ds) 1 (length ds))
    numbers kept (omega arith) c.loop-place-test.true c.index-plans-place.is c.index-kept-kept.is
    c.in_ok-push.ensures.items c.in_ok-block.ensures (c.loop-place.invariant width kept numbers)

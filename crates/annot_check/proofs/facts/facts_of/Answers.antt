use Rattle.annot_check.proofs.Shaped.Shapes.{append_more, dropped}
use Rattle.annot_check.proofs.facts.facts_of.Goals as goal

pub loop-block-preserved : goal.loop-block-preserved
loop-block-preserved c =
    let f = dropped c.args.image.now.blocks.items c.deref-block-items.result.now c.loop-block.block-index
    c.block-item.result c.deref-block-items.ensures.value c.loop-block-test.true c.block-item.is in
    record {
      ops = append_more c.loop-block.facts.ops.items _ _ _ _ c.in_ok-add_block.ensures.ops
          (rw f at c.loop-block.invariant.ops);
      advances = append_more c.loop-block.facts.advances.items _ _ _ _ c.in_ok-add_block.ensures.advances
          (rw f at c.loop-block.invariant.advances);
      waves = append_more c.loop-block.facts.waves.items _ _ _ _ c.in_ok-add_block.ensures.waves
          (rw f at c.loop-block.invariant.waves);
    }

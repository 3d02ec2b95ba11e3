use Rattle.std.proofs.Common.{◌+◌, suc, map, drop, arith}
use Rattle.ws_isa.specs.View as view
use Rattle.df_core.proofs.Parts.Placed.{spots_more}
use Rattle.df_core.proofs.program.Program.of.Goals as goal
use Rattle.ws_words.proofs.Lists.{drop_next}

pub loop-block-preserved : goal.loop-block-preserved
loop-block-preserved c =
    let items = c.deref-block-items.result.now in
    let i = c.loop-block.block-index in
    let n = c.loop-block.invariant.number in
    record {
      spots = spots_more c.loop-block.spots.items c.add_instrs.new.spots.items (drop i items)
          (drop (i + 1) items) (map view.block items) c.block-item.result (c.loop-block.number + 1) (suc i)
          (suc (i + 1)) (omega arith) (omega arith)
          (drop_next items i (i + 1) c.block-item.result (omega arith) (omega arith) c.block-item.is)
          c.in_ok-add_instrs.ensures c.loop-block.invariant.spots;
      number = omega arith;
    }

use Rattle.std.proofs.Common.{◌<◌, ◌∙◌, length, arith}
use Rattle.cfg_core.specs.Tables.{graph_in}
use Rattle.cfg_core.specs.View as view
use Rattle.wave_gen.specs.Listing.{arms_of}
use Rattle.wave_gen.proofs.Tables.Marked.{some_next}
use Rattle.wave_gen.proofs.marks.arms.Goals as goal
use Rattle.ws_words.specs.Items.{flag_at}

pub loop-i-preserved : goal.loop-i-preserved
loop-i-preserved c =
    let t = c.args.table.now in let g = view.graph (graph_in t) in let h = c.loop-i.invariant in
    record {
      count = c.mark_arms_at.ensures.count ∙ h.count;
      marked = λ b l. (let m : b < length c.loop-i.flags.items = omega (arith, l, h.count) in
          some_next arms_of g c.loop-i.i b (flag_at c.loop-i.flags.items b)
          (flag_at c.mark_arms_at.new.flags.items b) (omega arith)
          (omega (arith, c.block_count-i.ensures)) (h.marked b l)
          (c.mark_arms_at.ensures.marked b m));
    }

use Rattle.std.proofs.Common.{◌≡◌, ◌+◌, ◌++◌, map, drop}
use Rattle.cfg_core.specs.Tables.{graph_in}
use Rattle.cfg_core.specs.View as view
use Rattle.call_gen.specs.Part.{name, part_blocks, BlocksThere}
use Rattle.call_gen.proofs.part.Part.blocks.Given as goal
use Rattle.ws_words.specs.Items.{flag_at}

abbrev pub invariant-loop-i : goal.invariant-loop-i
invariant-loop-i l = record {
  made : map view.block l.made.items ++ part_blocks (flag_at l.self.flags.items)
      (name (view.graph (graph_in l.self.table)) (flag_at l.self.flags.items)) (l.first + l.i)
      (map view.block (drop l.i l.blocks))
      ≡ part_blocks (flag_at l.self.flags.items) (name (view.graph (graph_in l.self.table))
      (flag_at l.self.flags.items)) l.first (map view.block l.blocks);
  there : BlocksThere (view.graph (graph_in l.self.table)) (map view.block (drop l.i l.blocks));
}

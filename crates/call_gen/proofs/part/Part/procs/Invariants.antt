use Rattle.std.proofs.Common.{◌≡◌, ◌+◌, ◌++◌, map, drop, length}
use Rattle.std.specs.List.{AllByRecursion}
use Rattle.cfg_core.specs.Graph.{spots, spots_from}
use Rattle.cfg_core.specs.Tables.{graph_in}
use Rattle.cfg_core.specs.View as view
use Rattle.call_gen.specs.Part.{name, part_procs, BlocksThere}
use Rattle.call_gen.proofs.part.Part.procs.Given as goal
use Rattle.ws_words.specs.Items.{flag_at}

abbrev pub invariant-loop-proc : goal.invariant-loop-proc
invariant-loop-proc l = record {
  made : map view.proc l.procs.items ++ part_procs (flag_at l.self.flags.items)
      (name (view.graph (graph_in l.self.table)) (flag_at l.self.flags.items)) l.first
      (map view.proc (drop l.proc-index (graph_in l.self.table).procs.items))
      ≡ part_procs (flag_at l.self.flags.items) (name (view.graph (graph_in l.self.table))
      (flag_at l.self.flags.items)) 0 (map view.proc (graph_in l.self.table).procs.items);
  there : AllByRecursion (λ p. BlocksThere (view.graph (graph_in l.self.table)) p.blocks)
      (map view.proc (drop l.proc-index (graph_in l.self.table).procs.items));
  count : l.first + length
      (spots_from l.proc-index (map view.proc (drop l.proc-index (graph_in l.self.table).procs.items)))
      ≡ length (spots (view.graph (graph_in l.self.table)));
}

use Rattle.std.proofs.Common.{◌≡◌, ◌++◌, drop, map, length}
use Rattle.cfg_core.specs.Graph.{spots_from}
use Rattle.cfg_core.specs.View as view
use Rattle.cfg_core.specs.Listed.{spot_in_code, spot_in_graph, rooms_from}
use Rattle.cfg_core.proofs.table.GraphTable.of.Given as goal

abbrev pub invariant-loop-proc : goal.invariant-loop-proc
invariant-loop-proc l = record {
  spots : map spot_in_code l.spots.items ++ map spot_in_graph
      (spots_from l.proc-index (map view.proc (drop l.proc-index l.proc-items))) ≡ map spot_in_graph
      (spots_from 0 (map view.proc l.proc-items));
  rooms : l.rooms.items ++ rooms_from (length l.spots.items) (map view.proc (drop l.proc-index l.proc-items))
      ≡ rooms_from 0 (map view.proc l.proc-items);
}

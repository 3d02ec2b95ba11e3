use Rattle.std.proofs.Common.{◌≡◌, ◌≤◌, ◌++◌, map, drop}
use Rattle.cfg_core.specs.View as view
use Rattle.cfg_inline.specs.Chosen as choice
use Rattle.cfg_inline.proofs.plan.choose.Given as goal

abbrev pub invariant-loop-proc : goal.invariant-loop-proc
invariant-loop-proc l = record {
  chosen : l.chosen.items ++ map (choice.is_chosen l.most_room)
      (map view.proc (drop l.proc-index l.graph.procs.items))
      ≡ map (choice.is_chosen l.most_room) (map view.proc l.graph.procs.items);
  room : choice.room l.most_room l.room (map view.proc (drop l.proc-index l.graph.procs.items))
      ≡ choice.room l.most_room 0 (map view.proc l.graph.procs.items);
  few : l.room ≤ l.most_room;
}

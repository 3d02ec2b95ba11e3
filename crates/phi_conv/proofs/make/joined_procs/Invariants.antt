use Rattle.std.proofs.Common.{◌≡◌, ◌++◌, map, drop}
use Rattle.cfg_core.specs.Tables.{graph_in}
use Rattle.cfg_core.specs.View as view
use Rattle.phi_conv.specs.Joined as joined
use Rattle.phi_conv.proofs.make.joined_procs.Given as goal

abbrev pub invariant-loop-proc : goal.invariant-loop-proc
invariant-loop-proc l =
    map view.proc l.procs.items ++ map (joined.joined_proc (view.graph (graph_in l.table)) l.live)
    (map view.proc (drop l.proc-index (graph_in l.table).procs.items))
    ≡ map (joined.joined_proc (view.graph (graph_in l.table)) l.live) (view.graph (graph_in l.table)).procs

use Rattle.std.proofs.Common.{◌≡◌, ◌++◌, map, drop}
use Rattle.cfg_core.specs.Tables.{graph_in}
use Rattle.cfg_core.specs.View as view
use Rattle.phi_conv.specs.Joined as joined
use Rattle.phi_conv.proofs.make.joined_proc.Given as goal

abbrev pub invariant-loop-block : goal.invariant-loop-block
invariant-loop-block l =
    map view.block l.blocks.items ++ map (joined.joined_block (view.graph (graph_in l.table)) l.live
    l.proc.vars) (map view.block (drop l.block-index l.proc.blocks.items))
    ≡ map (joined.joined_block (view.graph (graph_in l.table)) l.live l.proc.vars)
    (map view.block l.proc.blocks.items)

use Rattle.std.proofs.Common.{◌+◌, ◌*◌, length}
use Rattle.cfg_core.specs.Tables.{graph_in}
use Rattle.cfg_core.specs.View as view
use Rattle.call_gen.specs.Part.{unset, Finding}
use Rattle.call_gen.proofs.find.find.Given as goal

abbrev pub invariant-loop-b : goal.invariant-loop-b
invariant-loop-b l = Finding (view.graph (graph_in l.table)) l.finder.flags.items l.finder.waits.items

abbrev pub decreases-loop-b : goal.decreases-loop-b
decreases-loop-b l = 2 * unset l.finder.flags.items + length l.finder.waits.items

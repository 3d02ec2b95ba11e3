use Rattle.std.proofs.Common.{ℕ, List}
use Rattle.ws_words.specs.Outside.{ProcState}
use Rattle.cfg_core.specs.Walk as walks
use Rattle.cfg_core.specs.View as view
use Rattle.cfg_core.specs.Tables.{graph_in}
use Rattle.cfg_core.specs.Shows.{Shows, Held}
use Rattle.cfg_core.proofs.Walking.{WalkUpto, heft}
use Rattle.cfg_core.proofs.run.walk.Given as goal

abbrev pub invariant-loop-b : goal.invariant-loop-b
invariant-loop-b l = record {
  held : Held l.walker;
  upto : (s : ProcState) (frames : List walks.Frame) (k : ℕ) → Shows s frames k l.initial.walker
      → WalkUpto (view.graph (graph_in l.table)) (walks.starts l.initial.at s frames k) l.at l.walker;
}

abbrev pub decreases-loop-b : goal.decreases-loop-b
decreases-loop-b l = heft (view.graph (graph_in l.table)) l.at l.walker

use Rattle.std.proofs.Common.{suc, ◌<◌, length}
use Rattle.store_buf.specs.Trees.{LeadsTo, root_of}
use Rattle.store_buf.proofs.index.Index.hook.Given as goal

abbrev pub invariant-loop-left : goal.invariant-loop-left
invariant-loop-left l = record {
  within : l.at < length l.self.nodes.items;
  leads : LeadsTo l.kept l.self.nodes.items (root_of l.self.roots.items l.wave) l.wave l.instr (suc l.left)
      l.at l.key;
}

abbrev pub decreases-loop-left : goal.decreases-loop-left
decreases-loop-left l = l.left

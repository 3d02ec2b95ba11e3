use Rattle.std.proofs.Common.{◌-◌, ◌≡◌, ◌+◌, length, vec_capacity}
use Rattle.match_table.specs.declared.entry.PageName.{PageName}
use Rattle.match_table.specs.Pages.{root_of}
use Rattle.match_table.proofs.tree.reach.Given as goal

abbrev pub invariant-loop-roots : goal.invariant-loop-roots
invariant-loop-roots l = record {
  same : (n : PageName) → root_of l.roots.items n ≡ root_of l.initial.roots.items n;
  capacity : vec_capacity l.roots ≡ vec_capacity l.initial.roots;
}

abbrev pub decreases-loop-roots : goal.decreases-loop-roots
decreases-loop-roots l = l.tree + 1 - length l.roots.items

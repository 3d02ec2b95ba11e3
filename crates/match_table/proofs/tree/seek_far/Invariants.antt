use Rattle.std.proofs.Common.{suc, ◌≡◌}
use Rattle.match_table.specs.Pages.{found, walk}
use Rattle.match_table.proofs.tree.seek_far.Given as goal

abbrev pub invariant-loop-page : goal.invariant-loop-page
invariant-loop-page l =
    walk l.pages.slots (suc l.left) l.at l.path l.name ≡ found l.roots l.pages.slots l.name

abbrev pub decreases-loop-page : goal.decreases-loop-page
decreases-loop-page l = l.left

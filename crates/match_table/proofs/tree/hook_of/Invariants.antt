use Rattle.std.proofs.Common.{suc, ◌≡◌, Some, None}
use Rattle.match_table.specs.Pages.{HookIs, Leads, PageContent, found, root_of, under, walk}
use Rattle.match_table.proofs.tree.hook_of.Given as goal

abbrev pub invariant-loop-page : goal.invariant-loop-page
invariant-loop-page l = record {
  search : walk l.pages.slots (suc l.left) l.at l.path l.fn.name ≡ found l.roots l.pages.slots l.fn.name;
  leads : (page : PageContent) → under l.pages.slots l.at ≡ Some page
      → Leads l.pages.slots (root_of l.roots l.fn.name) l.fn.name l.left l.at l.path;
  hooked : under l.pages.slots l.at ≡ None → HookIs l.roots l.pages.slots l.fn.name l.hook;
}

abbrev pub decreases-loop-page : goal.decreases-loop-page
decreases-loop-page l = l.left

use Rattle.std.proofs.Common.{◌-◌, ◌≡◌, ◌/◌, suc, Some, sym, ap, ◌∙◌, subst, arith}
use Rattle.match_table.specs.Pages.{Leads, PageContent, next_of, root_of, under, walk}
use Rattle.match_table.proofs.Trees.{at_other, leads_on}
use Rattle.match_table.proofs.tree.hook_of.Goals as goal

pub loop-page-preserved : goal.loop-page-preserved
loop-page-preserved c = let slots = c.args.pages.now.slots in let p : PageContent = c.in-Some.page.now in
    let at = c.loop-page.at in let path = c.loop-page.path in let name = c.args.name in
    let root = root_of c.args.roots.now name in
    let there : under slots at ≡ Some p = sym c.in-Some.ensures in
    let n : c.loop-page.left ≡ suc (c.loop-page.left - 1) =
    (let some = c.if-left-eq0.false in omega (arith, some)) in
    let next : c.next_of-at.result ≡ next_of p path = c.next_of-at.ensures in
    let leads = c.loop-page.invariant.leads p there in record {
      search = ap (λ k. walk slots (suc (c.loop-page.left - 1)) k (path / 2) name) next
          ∙ ap (λ k. walk slots k (next_of p path) (path / 2) name) (sym n)
          ∙ sym (at_other slots c.loop-page.left at path name p there (c.requires.absent at p there))
          ∙ c.loop-page.invariant.search;
      leads = λ r behind. subst (λ k. Leads slots root name (c.loop-page.left - 1) k (path / 2)) (sym next)
          (leads_on slots root (c.loop-page.left - 1) at path name p r
          (subst (λ k. Leads slots root name k at path) n leads) there (c.requires.absent at p there)
          (ap (under slots) (sym next) ∙ behind));
      hooked = λ none. (p, there, ap (under slots) (sym next) ∙ none, (c.loop-page.left, leads));
    }

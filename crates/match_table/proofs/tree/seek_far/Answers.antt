use Rattle.std.proofs.Common.{◌-◌, ◌≡◌, ◌/◌, suc, sym, ap, ◌∙◌, arith}
use Rattle.match_table.specs.Pages.{PageContent, next_of, walk}
use Rattle.match_table.proofs.Trees.{at_other}
use Rattle.match_table.proofs.tree.seek_far.Goals as goal

pub loop-page-preserved : goal.loop-page-preserved
loop-page-preserved c = let slots = c.args.pages.now.slots in let p : PageContent = c.in-Some.page.now in
    let n : c.loop-page.left ≡ suc (c.loop-page.left - 1) =
    (let some = c.if-left-eq0.false in omega (arith, some)) in
    ap (λ k. walk slots (suc (c.loop-page.left - 1)) k (c.loop-page.path / 2) c.args.name)
    c.next_of-at.ensures
    ∙ ap (λ k. walk slots k (next_of p c.loop-page.path) (c.loop-page.path / 2) c.args.name) (sym n)
    ∙ sym (at_other slots c.loop-page.left c.loop-page.at c.loop-page.path c.args.name p
    (sym c.in-Some.ensures)
    (λ e. c.is_same.ensures.apart c.if-is_same.false (ap (λ (x : PageContent). x.name) c.page.view_is ∙ e)))
    ∙ c.loop-page.invariant

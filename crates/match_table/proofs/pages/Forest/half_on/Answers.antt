use Rattle.std.proofs.Common.{◌≡◌, List, ℕ, Some, arith, refl, ap, ◌∙◌, get_or}
use Rattle.match_table.specs.Pages.{all_values, some_half, under}
use Rattle.match_table.specs.Ports.{none_half}
use Rattle.match_table.proofs.Store.{absent_is, found_is}
use Rattle.match_table.proofs.pages.Forest.half_on.Goals as goal

pub returns-then-is_same-clause-seen : goal.returns-then-is_same-clause-seen
returns-then-is_same-clause-seen c =
    let at : under c.args.self.now.pages.slots c.key-key.result ≡ Some c.in-Some.page.now = grind arith in
    let is : c.in-Some.page.now.name ≡ c.name_of-name.result = grind arith in
    c.half_at.ensures ∙ ap (λ (wide : List ℕ). all_values wide
    (some_half (get_or c.in-Some.page.now.entries c.place_of-place.result none_half))) c.deref.ensures.value
    ∙ ap (all_values c.args.self.now.wide.items) (found_is _ _ c.requires.stand _ _ _ _ _ _ _ _ refl
    c.name_of-name.ensures (record { page = c.in-Some.page.now; at = at; is = is }) at
    c.place_of-place.ensures.place refl)

pub returns-in_default-seek_far-clause-seen : goal.returns-in_default-seek_far-clause-seen
returns-in_default-seek_far-clause-seen c = ap (all_values c.args.self.now.wide.items) (absent_is _ _ _ _ _
    refl c.name_of-name.ensures c.in_default-seek_far.ensures)

pub returns-clause-seen : goal.returns-clause-seen
returns-clause-seen c = c.half_at-2.ensures ∙ ap (λ (wide : List ℕ). all_values wide
    (some_half (get_or c.index.result.now.entries c.place_of-place.result none_half))) c.deref-3.ensures.value
    ∙ ap (all_values c.args.self.now.wide.items) (found_is _ _ c.requires.stand _ _ _ _ _ _ _ _ refl
    c.name_of-name.ensures c.in-Some-seek_far.ensures c.index.ensures c.place_of-place.ensures.place refl)

use Rattle.std.proofs.Common.{ap, ◌∙◌}
use Rattle.match_table.specs.Pages.{arrived_in}
use Rattle.match_table.proofs.Halves.{nothing_in}
use Rattle.match_table.proofs.pages.Pages.new.Goals as goal

pub returns : goal.returns
returns c = λ w i. ap (λ slots. arrived_in (record { slots = slots; wide = c.new-3.result.items }) w i)
    c.new-2.ensures.empty ∙ nothing_in c.new-3.result.items w i

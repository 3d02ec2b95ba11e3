use Rattle.std.proofs.Common.{ap, ◌∙◌}
use Rattle.match_table.specs.Pages.{PageStore}
use Rattle.match_table.specs.Spots.{instances}
use Rattle.match_table.proofs.table.Table.accept_into.Goals as goal

pub returns-clause-answer : goal.returns-clause-answer
returns-clause-answer g c = rw (← ap (λ (s : PageStore). record {
  entries = s.entries;
  fired = instances s.entries.slots c.self.inside.fired;
  spare = c.self.inside.room;
}) c.find-key.ensures.same ∙ c.self.view_is) c.take.ensures.answer

pub invariant_of-self : goal.invariant_of-self
invariant_of-self g c = rw c.find-key.ensures.same c.self.invariant

use Rattle.std.proofs.Common.{◌∙◌, ap, subst, sym}
use Rattle.port_set.specs.Slots.{AllOpen, contents}
use Rattle.fire_crew.proofs.crew.Crew.run_over.Goals as goal

pub returns-in_default-clause-open : goal.returns-in_default-clause-open
returns-in_default-clause-open g c = subst AllOpen
    (sym (ap (λ s. contents g.P.Port.tells s) c.starved_crew.ensures.ports)) c.requires.open

pub returns-in-Err-clause-open : goal.returns-in-Err-clause-open
returns-in-Err-clause-open g c = subst AllOpen
    (sym (ap (λ s. contents g.P.Port.tells s) c.starved_crew-in-Err.ensures.ports ∙ c.in-Err.ensures.back))
    c.requires.open

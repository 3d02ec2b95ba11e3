use Rattle.fire_crew.proofs.Asking.{taken}
use Rattle.fire_crew.proofs.solo.ask.Goals as goal

pub returns-in-Ok-take_all : goal.returns-in-Ok-take_all
returns-in-Ok-take_all g c = taken _ _ _ _ _ _ c.requires _ c.facts.ensures.stands.1 _ _ _ c.in-Ok.ensures.0
    c.in-Ok-take_all.ensures.old c.in-Ok-take_all.ensures.taken

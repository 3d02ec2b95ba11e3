use Rattle.wsc_top.proofs.Reading.AssembliesOnce.{assembly_alike, checked_once, listed_once, gridded_alike}
use Rattle.wsc_top.proofs.laws.assemblies_are_answered_alike.Goals as goal

pub returns-clause-alike : goal.returns-clause-alike
returns-clause-alike c task settled text handed a b h k free also whole sound =
    assembly_alike c.breaches_break.ensures
    (record { instances = c.walks_go_on.ensures.instances; effects = c.effects_are_one.ensures })
    c.clocks_are_one.ensures c.read_images_are_formed.ensures task settled text handed
    a.0 b.0 a.1 b.1 h.0 k.0 h.1 k.1 h.2 k.2 free also whole sound

pub returns-clause-checked : goal.returns-clause-checked
returns-clause-checked c text image words handed is = checked_once c.breaches_break.ensures text image words
    handed is

pub returns-clause-listed : goal.returns-clause-listed
returns-clause-listed c text image words handed is = listed_once c.breaches_break.ensures text image words
    handed is

pub returns-clause-gridded : goal.returns-clause-gridded
returns-clause-gridded c options text image words handed a b is h k = gridded_alike c.breaches_break.ensures
    text image words handed is c.clocks_are_one.ensures c.read_images_are_formed.ensures options a.0 b.0 a.1
    b.1 h.0 k.0 h.1 k.1 h.2 k.2

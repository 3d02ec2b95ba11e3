use Rattle.store_buf.proofs.Reaching.{covers_self}
use Rattle.fire_crew.proofs.missing.look_last.Goals as goal

pub returns-clause-more : goal.returns-clause-more
returns-clause-more g c = (c.in_ok-look_across.ensures.reach c.look_across.new.found (covers_self _)).0

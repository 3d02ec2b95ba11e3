use Rattle.wave_gen.proofs.Tables.Keepings.{lengths_differ}
use Rattle.wave_gen.proofs.fork.same_spots.Goals as goal

pub returns-then-one-other : goal.returns-then-one-other
returns-then-one-other c = lengths_differ c.args.one.now c.args.other.now c.if-one-other.true

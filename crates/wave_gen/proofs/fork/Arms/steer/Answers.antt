use Rattle.std.proofs.Common.{refl}
use Rattle.ws_isa.specs.declared.instr.Op.TheVariants.{Steer}
use Rattle.wave_gen.specs.declared.spot.Line.{Line}
use Rattle.wave_gen.specs.declared.fork.Arms.{Arms}
use Rattle.wave_gen.proofs.Tables.Keepings.{forked_more}
use Rattle.wave_gen.proofs.fork.Arms.steer.Goals as goal

pub returns : goal.returns
returns c w v xs free was =
    let g : Arms = record {
      some = c.take-dests.new.self;
      none = c.take-others.new.self;
      tails = c.push.new.self;
    } in
    let l : Line = record { op = Steer; dests = c.take-dests.result; others = c.take-others.result } in
    forked_more c.args.name xs w v c.args.self.now g l free refl c.take-dests.ensures.list
    c.take-others.ensures.list c.take-dests.ensures.wants c.take-others.ensures.wants
    c.in_ok-push.ensures.items was

use Rattle.multi_wave.specs.Stands.{end_told}
use Rattle.multi_wave.proofs.Turns.{moved}
use Rattle.multi_wave.proofs.crew.ThreadCrew.round.Goals as goal

pub returns : goal.returns
returns g c = (
  moved c.args.lanes.first c.join.result c.take_apart-first.result.home c.phase-homes.result.homes.first
      (end_told g.P.Port.tells c.take_apart-first.result.end) c.take_apart-first.ensures.apart
      c.phase-homes.ensures.0 c.join.ensures,
  moved c.args.lanes.second c.join-2.result c.take_apart-second.result.home c.phase-homes.result.homes.second
      (end_told g.P.Port.tells c.take_apart-second.result.end) c.take_apart-second.ensures.apart
      c.phase-homes.ensures.1 c.join-2.ensures,
  moved c.args.lanes.third c.join-3.result c.take_apart-third.result.home c.phase-homes.result.homes.third
      (end_told g.P.Port.tells c.take_apart-third.result.end) c.take_apart-third.ensures.apart
      c.phase-homes.ensures.2 c.join-3.ensures,
  moved c.args.lanes.fourth c.join-4.result c.take_apart-fourth.result.home c.phase-homes.result.homes.fourth
      (end_told g.P.Port.tells c.take_apart-fourth.result.end) c.take_apart-fourth.ensures.apart
      c.phase-homes.ensures.3 c.join-4.ensures,
)

use Rattle.std.proofs.Common.{arith}
use Rattle.fire_crew.proofs.Rights.{asks_at, request_right}
use Rattle.fire_crew.proofs.unknown.note_unknown.Goals as goal

pub right-requires : goal.right-requires
right-requires g c = request_right _ _ c.facts-2.ensures.formed c.facts-2.ensures.sound _ _ _ _ _ (asks_at
    g.J.Job.image g.J.Job.world c.facts-2.ensures.formed c.facts-2.ensures.sound c.args.table.now
    c.facts.ensures.part c.asked_at-fired.result c.asked_at-fired.ensures.operands c.args.place c.requires
    c.asked_at-fired.ensures.at) c.first-first.ensures c.second-second.ensures

pub returns-then-knows : goal.returns-then-knows
returns-then-knows g c = grind arith

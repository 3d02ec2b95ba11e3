use Rattle.std.proofs.Common.{◌≡◌, ◌++◌, ◌∷◌, ◌-◌}
use Rattle.live_vars.specs.Marks.{has}
use Rattle.wave_gen.specs.Plans.{pulse}
use Rattle.wave_gen.specs.Words.{live_from}
use Rattle.wave_gen.proofs.plans.PlanGround.entries.Given as goal

abbrev pub invariant-loop-x : goal.invariant-loop-x
invariant-loop-x l = l.list.items ++ live_from (has l.self.live.now l.b) l.x (l.vars - l.x) ≡ pulse
    ∷ live_from (has l.self.live.now l.b) 0 l.vars

use Rattle.live_vars.specs.Marks.{has}
use Rattle.wave_gen.proofs.OfGraphs.Outlined.{entries_next}
use Rattle.wave_gen.proofs.plans.PlanGround.entries.Goals as goal
use Rattle.std.proofs.Common.{◌∙◌, ◌++◌, ◌∷◌, [], ap, cond, suc, Bool}

pub loop-x-preserved : goal.loop-x-preserved
loop-x-preserved c =
    entries_next (has c.args.self.now.live.now c.args.b) c.loop-x.x c.args.vars c.loop-x.list.items
    c.add_if.new.list.items _ c.loop-x-test.true
    (c.in_ok-add_if.ensures ∙ ap (λ (v : Bool). c.loop-x.list.items ++ cond v (suc c.loop-x.x ∷ []) [])
    c.has.ensures)
    c.loop-x.invariant

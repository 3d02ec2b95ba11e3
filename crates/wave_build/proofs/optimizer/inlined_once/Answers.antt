use Rattle.std.proofs.Common.{arith}
use Rattle.cfg_core.specs.View as view
use Rattle.cfg_inline.specs.Inlined.{Plan}
use Rattle.wave_build.proofs.Opening.{inlined_opened}
use Rattle.wave_build.proofs.optimizer.inlined_once.Goals as goal

pub returns : goal.returns
returns c =
    let i = c.in_ok-made.ensures in
    let p = c.in_ok-plan.ensures in
    let plan : Plan = record { room = c.in_ok-plan.plan.room; chosen = c.deref.result.now } in
    record {
      rules = i.rules;
      opened = λ parts vars few o. (
        c.in_ok-plan.plan.room,
        p.few,
        inlined_opened parts plan (view.graph c.args.graph.now) (view.graph c.in_ok-made.made) i.inlined
            i.rules i.exits i.arms i.live i.charged i.walks i.arrays vars (omega (arith, few, p.few)) o,
      );
    }

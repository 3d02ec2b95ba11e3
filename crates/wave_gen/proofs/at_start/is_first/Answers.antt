use Rattle.std.proofs.Common.{◌-◌, ◌∙◌, map, sym, ap, arith}
use Rattle.wave_gen.specs.declared.plan.Plan as code
use Rattle.wave_gen.specs.View as view
use Rattle.wave_gen.specs.Plans.{Plan}
use Rattle.wave_gen.proofs.OfGraphs.Framed.{plan_is, plan_zero, plan_past}
use Rattle.wave_gen.proofs.at_start.is_first.Goals as goal

pub returns-then-block-eq0-clause-first : goal.returns-then-block-eq0-clause-first
returns-then-block-eq0-clause-first c =
    sym (plan_zero (map view.plan c.args.plans.now) c.args.block (omega arith))

pub returns-then-block-plans-clause-first : goal.returns-then-block-plans-clause-first
returns-then-block-plans-clause-first c = sym (plan_past c.args.plans.now c.args.block (omega arith))

pub returns-clause-first : goal.returns-clause-first
returns-clause-first c =
    let k = c.args.block in
    sym (ap (λ (p : code.Plan). p.first) c.index-plans-block.is)
    ∙ sym (ap (λ (p : Plan). p.first) (plan_is c.args.plans.now k (k - 1) c.index-plans-block.result
    (omega arith) (omega arith) c.index-plans-block.is))

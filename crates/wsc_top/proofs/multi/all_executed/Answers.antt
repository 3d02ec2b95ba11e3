use Rattle.std.proofs.Common.{refl}
use Rattle.port_set.specs.Slots.{contents}
use Rattle.wsc_top.proofs.Several.ThreadRuns.{answer_runs, answer_begun, first_open, each_end}
use Rattle.wsc_top.proofs.multi.all_executed.Goals as goal

pub returns-clause-executes : goal.returns-clause-executes
returns-clause-executes g c = answer_runs g.P.Port.tells c.args.options c.args.images.now c.args.inputs.items
    (contents g.P.Port.tells c.args.ports) c.requires.some c.requires.few c.multi_run-ends.result
    c.ports_of.result c.ports_of.ensures (each_end g.P.Port.tells c.args.options c.args.images.now
    c.args.images.now c.args.inputs.items (contents g.P.Port.tells c.args.ports) c.multi_run-ends.result _ _ _
    _ refl c.parts-parts.ensures.first c.parts-parts.ensures.second c.parts-parts.ensures.third
    c.parts-parts.ensures.fourth c.multi_run-ends.ensures.first c.multi_run-ends.ensures.second
    c.multi_run-ends.ensures.third c.multi_run-ends.ensures.fourth) c.told-answer.result c.told-answer.ensures

pub returns-clause-begun : goal.returns-clause-begun
returns-clause-begun g c = answer_begun g.P.Port.tells c.args.options c.args.images.now c.args.inputs.items
    (contents g.P.Port.tells c.args.ports) c.requires.some c.requires.few c.multi_run-ends.result
    c.ports_of.result c.ports_of.ensures (each_end g.P.Port.tells c.args.options c.args.images.now
    c.args.images.now c.args.inputs.items (contents g.P.Port.tells c.args.ports) c.multi_run-ends.result _ _ _
    _ refl c.parts-parts.ensures.first c.parts-parts.ensures.second c.parts-parts.ensures.third
    c.parts-parts.ensures.fourth c.multi_run-ends.ensures.first c.multi_run-ends.ensures.second
    c.multi_run-ends.ensures.third c.multi_run-ends.ensures.fourth) c.told-answer.result

pub returns-clause-open : goal.returns-clause-open
returns-clause-open g c =
    let each = each_end g.P.Port.tells c.args.options c.args.images.now c.args.images.now
    c.args.inputs.items (contents g.P.Port.tells c.args.ports) c.multi_run-ends.result _ _ _ _
    refl
    c.parts-parts.ensures.first c.parts-parts.ensures.second c.parts-parts.ensures.third
    c.parts-parts.ensures.fourth c.multi_run-ends.ensures.first c.multi_run-ends.ensures.second
    c.multi_run-ends.ensures.third c.multi_run-ends.ensures.fourth in
    first_open g.P.Port.tells c.args.options.budget (contents g.P.Port.tells c.args.ports)
    c.args.images.now c.args.inputs.items c.multi_run-ends.result.first
    c.ports_of.result c.requires.some c.requires.same each.0 c.ports_of.ensures

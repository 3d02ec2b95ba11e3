use Rattle.std.proofs.Common.{◌≡◌, ◌-◌, length, List, ◌∙◌, ap, map, arith}
use Rattle.ws_words.specs.Plain.{world_of}
use Rattle.cfg_core.specs.View as view
use Rattle.cfg_core.specs.Shown.{shown_cells}
use Rattle.cfg_core.specs.Tables.{graph_in}
use Rattle.cfg_core.specs.declared.blocks.GraphArray.{GraphArray}
use Rattle.cfg_core.proofs.Cost.{not_both}
use Rattle.cfg_core.proofs.Walking.{opened, ended_is, going_is, in_time, ends_so}
use Rattle.cfg_core.proofs.run.run_graph.Goals as goal

pub overflow_sub-result : goal.overflow_sub-result
overflow_sub-result c =
    let g = view.graph c.args.graph.now in let world = world_of c.args.world.now in
    let w = c.walk.new.walker in
    let main : c.saturating_sub.result ≡ length c.args.graph.now.procs.items - 1 =
    omega (arith, c.args.graph.now.procs.ok.0) in
    let answer = opened (graph_in c.in_ok-table.table) c.args.graph.now world c.args.turns
    c.saturating_sub.result c.room-main.result.entry c.room-main.result.vars c.in_ok-walk.field-0 w
    c.in_ok-table.ensures main c.room-main.ensures.entry c.room-main.ensures.vars
    (c.in_ok-walk.ensures _ _ _ c.in_ok-walker.ensures) in
    in_time g world c.args.turns w (ended_is g world c.args.turns w c.in_ok-walk.field-0 c.if-branch.true
    answer)

pub returns-then-branch-clause-ended : goal.returns-then-branch-clause-ended
returns-then-branch-clause-ended c =
    let g = view.graph c.args.graph.now in let world = world_of c.args.world.now in
    let w = c.walk.new.walker in
    let main : c.saturating_sub.result ≡ length c.args.graph.now.procs.items - 1 =
    omega (arith, c.args.graph.now.procs.ok.0) in
    let answer = opened (graph_in c.in_ok-table.table) c.args.graph.now world c.args.turns
    c.saturating_sub.result c.room-main.result.entry c.room-main.result.vars c.in_ok-walk.field-0 w
    c.in_ok-table.ensures main c.room-main.ensures.entry c.room-main.ensures.vars
    (c.in_ok-walk.ensures _ _ _ c.in_ok-walker.ensures) in
    ends_so g world c.args.turns w c.in_ok-arrays.arrays (ended_is g world c.args.turns w c.in_ok-walk.field-0
    c.if-branch.true answer)
    (c.in_ok-arrays.ensures ∙ ap (λ (arrays : List GraphArray). shown_cells (map view.array arrays)
    w.memory.cells) c.deref.ensures.value)

pub returns-clause-going : goal.returns-clause-going
returns-clause-going c =
    let g = view.graph c.args.graph.now in let world = world_of c.args.world.now in
    let w = c.walk.new.walker in
    let main : c.saturating_sub.result ≡ length c.args.graph.now.procs.items - 1 =
    omega (arith, c.args.graph.now.procs.ok.0) in
    let answer = opened (graph_in c.in_ok-table.table) c.args.graph.now world c.args.turns
    c.saturating_sub.result c.room-main.result.entry c.room-main.result.vars c.in_ok-walk.field-0 w
    c.in_ok-table.ensures main c.room-main.ensures.entry c.room-main.ensures.vars
    (c.in_ok-walk.ensures _ _ _ c.in_ok-walker.ensures) in
    going_is g world c.args.turns w c.in_ok-walk.field-0 c.if-branch.false answer

pub returns-clause-ends_in_time : goal.returns-clause-ends_in_time
returns-clause-ends_in_time c = λ n o le ends.
    let g = view.graph c.args.graph.now in let world = world_of c.args.world.now in
    let w = c.walk.new.walker in
    let main : c.saturating_sub.result ≡ length c.args.graph.now.procs.items - 1 =
    omega (arith, c.args.graph.now.procs.ok.0) in
    let answer = opened (graph_in c.in_ok-table.table) c.args.graph.now world c.args.turns
    c.saturating_sub.result c.room-main.result.entry c.room-main.result.vars c.in_ok-walk.field-0 w
    c.in_ok-table.ensures main c.room-main.ensures.entry c.room-main.ensures.vars
    (c.in_ok-walk.ensures _ _ _ c.in_ok-walker.ensures) in
    let going = going_is g world c.args.turns w c.in_ok-walk.field-0 c.if-branch.false answer in
    absurd (not_both g world n c.args.turns o going.outside le ends going.goes)

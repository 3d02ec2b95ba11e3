use Rattle.std.proofs.Common.{◌≡◌, ◌++◌, map, drop}
use Rattle.cfg_core.specs.Tables.{graph_in}
use Rattle.cfg_core.specs.View as view
use Rattle.live_vars.specs.Marks.{has}
use Rattle.wave_cut.specs.Cut.{is_first}
use Rattle.wave_gen.specs.Listing.{plan_of, turned, place_of, width_of}
use Rattle.wave_gen.specs.View as plans
use Rattle.wave_gen.proofs.plans.PlanGround.plans.Given as goal

abbrev pub invariant-loop-b : goal.invariant-loop-b
invariant-loop-b l =
    let g = view.graph (graph_in l.self.table) in
    let all = plan_of g (has l.self.live.now) (turned g l.self.waves.now) (is_first l.self.waves.now)
    (place_of g l.self.waves.now) (width_of g) in
    map plans.plan l.list.items ++ map all (drop l.b-index l.self.order.blocks.items)
    ≡ map all l.self.order.blocks.items

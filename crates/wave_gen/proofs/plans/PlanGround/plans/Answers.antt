use Rattle.std.proofs.Common.{ℕ, ◌≤◌, ◌∙◌, ap, map, length, drop, get_or, refl, arith}
use Rattle.cfg_core.specs.Graph.{spots}
use Rattle.cfg_core.specs.Tables.{graph_in}
use Rattle.cfg_core.specs.View as view
use Rattle.live_vars.specs.Marks.{has}
use Rattle.wave_cut.specs.Cut.{is_first}
use Rattle.wave_gen.specs.Plans.{Plan}
use Rattle.wave_gen.specs.Listing.{plan_of, plans_of, turned, place_of, width_of}
use Rattle.wave_gen.specs.View as shown
use Rattle.wave_gen.proofs.OfGraphs.Buckets.{in_at, listed_below}
use Rattle.wave_gen.proofs.plans.PlanGround.plans.Goals as goal
use Rattle.ws_words.proofs.Lists.{drop_all, slid}

pub plan-requires-clause-there : goal.plan-requires-clause-there
plan-requires-clause-there c =
    let o = c.args.self.now in let g = view.graph (graph_in o.table) in let xs = c.deref-b-items.result.now in
    listed_below g o.waves.now (length (spots g)) xs refl (c.deref-b-items.ensures.value
    ∙ c.requires.order.blocks) (get_or xs c.loop-b.b-index 0) (in_at xs c.loop-b.b-index 0 (omega arith))

pub returns : goal.returns
unfolding plans_of
returns c =
    let o = c.args.self.now in let g = view.graph (graph_in o.table) in
    let all : ℕ → Plan = plan_of g (has o.live.now) (turned g o.waves.now) (is_first o.waves.now)
    (place_of g o.waves.now) (width_of g) in
    let xs = o.order.blocks.items in
    let l : length xs ≤ c.loop-b.b-index = omega (arith, ap length c.deref-b-items.ensures.value) in
    slid (map shown.plan c.loop-b.list.items) (map all (drop c.loop-b.b-index xs)) (map all xs)
    c.loop-b.invariant (ap (map all) (drop_all xs c.loop-b.b-index l))
    ∙ ap (map all) c.requires.order.blocks

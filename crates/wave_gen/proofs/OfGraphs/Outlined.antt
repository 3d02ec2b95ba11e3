-- The plan of a block, by the outline of its graph.
use Rattle.std.proofs.Common.{ℕ, suc, ◌+◌, ◌-◌, ◌≡◌, ◌<◌, ◌||◌, cond, not, eqb, Bool, List, []}
use Rattle.std.proofs.Common.{◌∷◌, ◌++◌, length, map, append_assoc, arith}
use Rattle.cfg_core.specs.Graph.{Block, spots, spot_at}
use Rattle.cfg_core.specs.View as view
use Rattle.cfg_core.specs.Shows.{SpotIs}
use Rattle.cfg_core.specs.Tables.{graph_in}
use Rattle.cfg_core.specs.declared.table.Spot as code
use Rattle.live_vars.specs.Marks.{has}
use Rattle.wave_cut.specs.Cut.{is_first}
use Rattle.wave_gen.specs.Wire.{Item}
use Rattle.wave_gen.specs.Plans as plans
use Rattle.wave_gen.specs.Plans.{HowLeft, pulse}
use Rattle.wave_gen.specs.Gen.{gen_ops}
use Rattle.wave_gen.specs.Shared.{shared, none_known}
use Rattle.wave_gen.specs.Drawn.{exit_next}
use Rattle.wave_gen.specs.Listing.{gen_exit, plan_of, turned, place_of, width_of}
use Rattle.wave_gen.specs.Words.{live_from}
use Rattle.wave_gen.specs.View as shown
use Rattle.wave_gen.specs.Placed.{OutlineIs, place, turned_at}
use Rattle.wave_gen.specs.declared.plan.Plan.{Plan}
use Rattle.wave_gen.specs.declared.plans.PlanGround.{PlanGround}
use Rattle.ws_words.specs.Items.{flag_at}

-- one variable more
pub entries_next : (f : ℕ → Bool) (x vars : ℕ) (old new whole : List ℕ) → x < vars
    → new ≡ old ++ cond (f x) (suc x ∷ []) [] → old ++ live_from f x (vars - x) ≡ whole
    → new ++ live_from f (x + 1) (vars - (x + 1)) ≡ whole
entries_next f x vars old new whole l e h = grind (arith, append_assoc)

-- the code's plan is this one
pub plan_is : (p : Plan) (q : plans.Plan) → p.wave ≡ q.wave → p.first ≡ q.first → p.joined ≡ q.joined
    → p.entries.items ≡ q.entries → p.pads.items ≡ q.pads → map shown.item p.items.items ≡ q.items
    → shown.leaves p.exit ≡ q.exit → p.test ≡ q.test → shown.plan p ≡ q
plan_is p q w f j e d i x t = grind arith

-- code is that of a block where the names of places and variables are the same
abbrev ItemsOf : (ℕ → ℕ) → ℕ → Block → List Item
ItemsOf f width x = let d = gen_ops width x.ops in
    shared none_known (d.items ++ (gen_exit f d.next x.exit).items)

abbrev ExitOf : (ℕ → ℕ) → ℕ → Block → HowLeft
ExitOf f width x = (gen_exit f (gen_ops width x.ops).next x.exit).exit

abbrev TestOf : ℕ → Block → ℕ
TestOf width x = exit_next (gen_ops width x.ops).next x.exit

pub plan_made : (o : PlanGround) → OutlineIs o → (b : ℕ) → b < length (spots (view.graph (graph_in o.table)))
    → (x : code.Spot) → SpotIs (spot_at (view.graph (graph_in o.table)) b) x → (p : Plan) →
    p.wave ≡ turned_at o.waves.now o.start b → p.first ≡ is_first o.waves.now b
    → p.joined ≡ not (is_first o.waves.now b || flag_at o.arms.items b) →
    p.entries.items ≡ cond (is_first o.waves.now b) (pulse ∷ live_from (has o.live.now b) 0 x.vars) [] →
    p.pads.items ≡ cond (eqb b o.start || flag_at o.landed.items b)
    (pulse ∷ map suc (view.block x.block.now).named) [] →
    map shown.item p.items.items ≡ ItemsOf (place o.order) o.width (view.block x.block.now) →
    shown.leaves p.exit ≡ ExitOf (place o.order) o.width (view.block x.block.now) →
    p.test ≡ TestOf o.width (view.block x.block.now) →
    shown.plan p ≡ plan_of (view.graph (graph_in o.table)) (has o.live.now)
    (turned (view.graph (graph_in o.table)) o.waves.now) (is_first o.waves.now)
    (place_of (view.graph (graph_in o.table)) o.waves.now) (width_of (view.graph (graph_in o.table))) b
plan_made o h b l x s p w f j e d i c t = grind (arith, plan_is)

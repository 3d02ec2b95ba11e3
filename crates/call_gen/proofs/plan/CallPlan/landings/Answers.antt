use Rattle.std.proofs.Common.{◌≡◌, ◌<◌, ◌∙◌, ap, List, ℕ, get_or, length, arith}
use Rattle.cfg_core.specs.Graph.{spots}
use Rattle.cfg_core.specs.Tables.{graph_in}
use Rattle.cfg_core.specs.View as view
use Rattle.call_gen.specs.Spelled.{moved}
use Rattle.call_gen.proofs.Spelled.Planning.{small_place, landings_next, landings_all}
use Rattle.call_gen.proofs.plan.CallPlan.landings.Goals as goal

pub overflow_add-place : goal.overflow_add-place
overflow_add-place c =
    let p = c.args.self.now in let g = view.graph (graph_in p.table) in let b = c.loop-b.b in
    let lt : b < length (spots g) =
    omega (arith, c.requires.count, c.deref-place-items.ensures.len, p.places.ok.0, c.loop-b-test.true) in
    omega (
      arith,
      small_place g b c.requires.few lt,
      c.requires.places b lt,
      ap (λ (ns : List ℕ). get_or ns b 0) c.deref-place-items.ensures.value,
    )

pub loop-b-preserved : goal.loop-b-preserved
loop-b-preserved c =
    let p = c.args.self.now in let g = view.graph (graph_in p.table) in let b = c.loop-b.b in
    let lt : b < length (spots g) =
    omega (arith, c.requires.count, c.deref-place-items.ensures.len, p.places.ok.0, c.loop-b-test.true) in
    let place : get_or c.deref-place-items.result.now b 0 ≡ moved g b =
    ap (λ (ns : List ℕ). get_or ns b 0) c.deref-place-items.ensures.value ∙ c.requires.places b lt in
    landings_next g c.args.f b (get_or c.deref-place-items.result.now b 0) c.loop-b.points.items
    c.push_if.new.points.items c.calls_to_at-hit.result lt place c.calls_to_at-hit.ensures
    c.loop-b.invariant c.in_ok-push_if.ensures

pub returns : goal.returns
returns c =
    let p = c.args.self.now in let g = view.graph (graph_in p.table) in
    landings_all g c.args.f c.loop-b.b c.loop-b.points.items
    (omega (arith, c.requires.count, c.deref-place-items.ensures.len, p.places.ok.0, c.loop-b-test.false))
    c.loop-b.invariant

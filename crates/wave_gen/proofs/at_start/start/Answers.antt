use Rattle.std.proofs.Common.{◌≡◌, ◌-◌, ◌∙◌, ℕ, suc, List, map, reverse, sym, ap, arith}
use Rattle.std.proofs.lemmas.Result.{IfOk-weaker}
use Rattle.wave_gen.specs.Wire.{Wants, Made}
use Rattle.wave_gen.specs.View as view
use Rattle.wave_gen.specs.Plans.{Plan, plan_at, start_of}
use Rattle.wave_gen.specs.Tables.{listed}
use Rattle.wave_gen.specs.declared.table.Table.{Table}
use Rattle.wave_gen.specs.declared.kept.Kept.{Kept}
use Rattle.wave_gen.specs.declared.plan.Plan as code
use Rattle.wave_gen.specs.Kept.{wanted, AreKept}
use Rattle.wave_gen.proofs.OfGraphs.Framed.{plan_is, start_first, start_later, kept_from_end, kept_none}
use Rattle.wave_gen.proofs.at_start.start.Goals as goal

pub returns-then-is_first : goal.returns-then-is_first
returns-then-is_first c =
    let ps = map view.plan c.args.plans.now in let k = c.args.target in
    let there = c.is_first.ensures.there c.if-is_first.true in
    let is : plan_at ps k ≡ view.plan c.index-plans-target.result = plan_is c.args.plans.now k (k - 1)
    c.index-plans-target.result (omega arith) there.1 c.index-plans-target.is in
    IfOk-weaker c.fronts.result _ (λ (t : Table). (b : ℕ) (later : List Made)
    → AreKept c.args.width ps b (reverse c.args.kept.now) later → ◌≡◌ {A = Wants} (listed t.lists.items)
    (start_of ps (suc c.args.block) later k))
    (λ t e b later h. e ∙ start_first ps (suc c.args.block) later k c.deref.result.now
    (sym c.is_first.ensures.first ∙ c.if-is_first.true) (ap (λ (p : Plan). p.entries) is
    ∙ ap (λ (p : code.Plan). p.entries.items) c.index-plans-target.is ∙ sym c.deref.ensures.value))
    c.fronts.ensures

pub returns-then-place-kept : goal.returns-then-place-kept
returns-then-place-kept c =
    let ps = map view.plan c.args.plans.now in let k = c.args.target in
    IfOk-weaker c.load.result _ (λ (t : Table). (b : ℕ) (later : List Made)
    → AreKept c.args.width ps b (reverse c.args.kept.now) later → ◌≡◌ {A = Wants} (listed t.lists.items)
    (start_of ps (suc c.args.block) later k))
    (λ t e b later h. e ∙ ap wanted (c.deref-then-place-kept.ensures.value
    ∙ ap (λ (x : Kept). x.wants.items) (sym c.index-kept-kept.is)) ∙ start_later ps (suc c.args.block)
    later k c.saturating_sub-place.result _ (sym c.is_first.ensures.first ∙ c.if-is_first.false)
    (omega arith)
    (kept_from_end c.args.width ps b c.args.kept.now later c.saturating_sub-place.result
    c.index-kept-kept.result h c.if-place-kept.true c.index-kept-kept.is)) c.load.ensures

pub returns-else-place-kept : goal.returns-else-place-kept
returns-else-place-kept c b later h =
    let ps = map view.plan c.args.plans.now in let k = c.args.target in
    c.new.ensures ∙ start_later ps (suc c.args.block) later k c.saturating_sub-place.result _
    (sym c.is_first.ensures.first ∙ c.if-is_first.false) (omega arith)
    (kept_none c.args.width ps b c.args.kept.now later c.saturating_sub-place.result h
    c.if-place-kept.false)

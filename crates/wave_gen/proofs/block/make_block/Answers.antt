use Rattle.std.proofs.Common.{◌≡◌, ◌-◌, suc, List, map, reverse, drop, refl, sym, ap, subst, arith}
use Rattle.wave_gen.specs.declared.plan.Plan as code
use Rattle.wave_gen.specs.declared.plan.Item.{Item}
use Rattle.wave_gen.specs.declared.kept.Kept.{Kept}
use Rattle.wave_gen.specs.declared.maker.Maker.{Maker}
use Rattle.wave_gen.specs.declared.spot.Line.{Line}
use Rattle.wave_gen.specs.View as view
use Rattle.wave_gen.specs.Wire.{wire}
use Rattle.wave_gen.specs.Plans.{Tail, plan_at, start_of, blocks_from, selected, end_wants, behind_source}
use Rattle.wave_gen.specs.Tables.{HasMade, bare, line_of, leaves_made}
use Rattle.wave_gen.proofs.OfGraphs.Framed.{plan_is, block_kept}
use Rattle.wave_gen.proofs.block.make_block.Goals as goal

pub returns : goal.returns
returns c kept ahead =
    let ps = map view.plan c.args.plans.now in let b = c.args.block in let n = c.args.width in
    let p : code.Plan = c.index-plans-block.result in
    let later = blocks_from n ps (suc b) (drop b ps) in
    let starts = start_of ps (suc b) later in
    let e = c.in_ok-tails.ensures (suc b) later kept in
    let m : Maker = record { block = b; code = c.new-code.result; wants = c.in_ok-tails.field-0.past } in
    let begin : HasMade b m (bare (end_wants n starts (view.leaves p.exit))) = record {
      block = refl;
      code = ap (λ (ls : List Line). reverse (map line_of ls)) c.new-code.ensures.items;
      wants = e.past;
    } in
    let hung = c.in_ok-select.ensures b (end_wants n starts (view.leaves p.exit)) begin in
    let sent =
    subst (λ (ts : List Tail). HasMade b c.select.new.self
    (selected b p.test ts (end_wants n starts (view.leaves p.exit)))) e.tails hung in
    let left = c.in_ok-behind.ensures.made b (behind_source n starts b (view.plan p)) sent in
    let s = leaves_made b p.test (view.leaves p.exit) (behind_source n starts b (view.plan p)) in
    let wired = subst (λ (is : List Item). HasMade b c.wire.new.self (wire b (map view.item is) s))
    c.deref.ensures.value (c.in_ok-wire.ensures b s left) in
    let made = c.in_ok-begin.ensures b (wire b (map view.item p.items.items) s) wired in
    let is : view.plan p ≡ plan_at ps b =
    sym (plan_is c.args.plans.now b (b - 1) c.index-plans-block.result (omega arith) c.requires.there
    c.index-plans-block.is) in
    let k : Kept = record {
      code = c.begin.new.self.code;
      behind = c.in_ok-behind.behind;
      wants = c.in_ok-wants.wants;
    } in
    block_kept n ps b (view.plan p) k c.begin.new.self is ahead made refl c.in_ok-wants.ensures
    (c.in_ok-behind.ensures.behind b (behind_source n starts b (view.plan p)) sent)

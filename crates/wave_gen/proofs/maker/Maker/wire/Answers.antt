use Rattle.std.proofs.Common.{◌≡◌, List, map, drop, sym, subst, arith}
use Rattle.wave_gen.specs.declared.plan.Item.{Item}
use Rattle.wave_gen.specs.View as view
use Rattle.wave_gen.specs.Wire.{wire}
use Rattle.wave_gen.specs.Tables.{HasMade}
use Rattle.wave_gen.proofs.Tables.Making.{back_one}
use Rattle.wave_gen.proofs.maker.Maker.wire.Goals as goal

pub loop-left-preserved : goal.loop-left-preserved
loop-left-preserved c = (
  omega arith,
  λ b s st.
      let items = c.args.items.now in let k = c.loop-left.left in
      subst (λ (is : List Item). HasMade b c.wire_item.new.self (wire b (map view.item is) s))
      (sym (back_one items k c.index-items-left.result (omega arith) c.loop-left.invariant.0
      c.index-items-left.is))
      (c.in_ok-wire_item.ensures b (wire b (map view.item (drop k items)) s)
      (c.loop-left.invariant.1 b s st)),
)

pub returns : goal.returns
returns c b s st =
    let none : c.loop-left.left ≡ 0 = omega arith in
    subst (λ n. HasMade b c.loop-left.self (wire b (map view.item (drop n c.args.items.now)) s)) none
    (c.loop-left.invariant.1 b s st)

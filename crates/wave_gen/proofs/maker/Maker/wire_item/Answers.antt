use Rattle.std.proofs.Common.{sym, subst, List, ℕ}
use Rattle.std.proofs.lemmas.Result.{on_ok_weaker}
use Rattle.wave_gen.specs.declared.plan.Item.{Item}
use Rattle.wave_gen.specs.View as view
use Rattle.wave_gen.specs.Wire.{Make, Act, wire_item}
use Rattle.wave_gen.specs.Tables.{HasMade}
use Rattle.wave_gen.proofs.maker.Maker.wire_item.Goals as goal

pub returns-in-Make : goal.returns-in-Make
returns-in-Make c =
    on_ok_weaker c.wire_make.result (λ e b s st.
    subst (λ (i : Item). HasMade b c.wire_make.new.self (wire_item b (view.item i) s)) (sym c.in-Make.is)
    (subst (λ (from : List ℕ). HasMade b c.wire_make.new.self
    (wire_item b (Make c.in-Make.name c.in-Make.op from) s)) c.deref.ensures.value (e b s st)))
    c.wire_make.ensures

pub returns-in-Act : goal.returns-in-Act
returns-in-Act c =
    on_ok_weaker c.act.result (λ e b s st.
    subst (λ (i : Item). HasMade b c.act.new.self (wire_item b (view.item i) s)) (sym c.in-Act.is)
    (subst (λ (from : List ℕ). HasMade b c.act.new.self (wire_item b (Act c.in-Act.op from) s))
    c.deref-in-Act.ensures.value (e b s st))) c.act.ensures

pub returns-in-Same : goal.returns-in-Same
returns-in-Same c =
    on_ok_weaker c.alias.result (λ e b s st.
    subst (λ (i : Item). HasMade b c.alias.new.self (wire_item b (view.item i) s)) (sym c.in-Same.is)
    (e b s st)) c.alias.ensures

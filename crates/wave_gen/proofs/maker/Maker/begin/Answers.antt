use Rattle.std.proofs.Common.{true, false, sym, ◌∙◌, ℕ, List, subst}
use Rattle.std.proofs.lemmas.Result.{on_ok_weaker}
use Rattle.wave_gen.specs.View as view
use Rattle.wave_gen.specs.Plans.{advances, renew}
use Rattle.wave_gen.specs.Tables.{HasMade}
use Rattle.wave_gen.proofs.Tables.Making.{begun_first, begun_other}
use Rattle.wave_gen.proofs.maker.Maker.begin.Goals as goal

pub returns-in_ok-renew : goal.returns-in_ok-renew
returns-in_ok-renew c =
    on_ok_weaker c.advance.result (λ e b s st.
    begun_first b (view.plan c.args.plan.now) c.advance.new.self s c.if-plan.true
    (subst (λ (xs : List ℕ). HasMade b c.advance.new.self
    (advances b xs (renew b c.args.plan.now.entries.items s))) c.deref-then-plan.ensures.value
    (e b (renew b c.args.plan.now.entries.items s)
    (subst (λ (xs : List ℕ). HasMade b c.renew.new.self (renew b xs s)) c.deref.ensures.value
    (c.in_ok-renew.ensures b s st))))) c.advance.ensures

pub returns-then-merges : goal.returns-then-merges
returns-then-merges c =
    on_ok_weaker c.emit.result (λ e b s st. begun_other b (view.plan c.args.plan.now) c.args.self.now
    c.emit.new.self s true c.if-plan.false (sym c.if-merges.true ∙ c.merges.ensures) st (e b s st))
    c.emit.ensures

pub returns-else-merges : goal.returns-else-merges
returns-else-merges c b s st = begun_other b (view.plan c.args.plan.now) c.args.self.now c.args.self.now s
    false c.if-plan.false (sym c.if-merges.false ∙ c.merges.ensures) st st

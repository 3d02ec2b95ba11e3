use Rattle.std.proofs.Common.{List, ℕ, sym, subst}
use Rattle.std.proofs.lemmas.Result.{on_ok_weaker}
use Rattle.wave_gen.specs.declared.plan.HowLeft.{HowLeft}
use Rattle.wave_gen.specs.View as view
use Rattle.wave_gen.specs.Wire.{make}
use Rattle.wave_gen.specs.Tables.{HasMade, leaves_made}
use Rattle.wave_gen.proofs.maker.Maker.leave.Goals as goal

pub returns-in-Either-clause-made : goal.returns-in-Either-clause-made
returns-in-Either-clause-made c =
    on_ok_weaker c.choose.result (λ e b s st.
    subst (λ (x : HowLeft). HasMade b c.choose.new.self (leaves_made b c.args.test (view.leaves x) s))
    (sym c.in-Either.is)
    (subst (λ (from : List ℕ). HasMade b c.choose.new.self (make b c.args.test c.in-Either.op from s))
    c.deref.ensures.value (e b s st))) c.choose.ensures.made

pub returns-in-Lands-clause-made : goal.returns-in-Lands-clause-made
returns-in-Lands-clause-made c =
    on_ok_weaker c.choose-in-Lands.result (λ e b s st.
    subst (λ (x : HowLeft). HasMade b c.choose-in-Lands.new.self
    (leaves_made b c.args.test (view.leaves x) s)) (sym c.in-Lands.is)
    (subst (λ (from : List ℕ). HasMade b c.choose-in-Lands.new.self (make b c.args.test c.in-Lands.op from s))
    c.deref-in-Lands.ensures.value (e b s st))) c.choose-in-Lands.ensures.made

pub returns-in-Halts-clause-made : goal.returns-in-Halts-clause-made
returns-in-Halts-clause-made c =
    on_ok_weaker c.halt.result (λ e b s st.
    subst (λ (x : HowLeft). HasMade b c.halt.new.self (leaves_made b c.args.test (view.leaves x) s))
    (sym c.in-Halts.is) (e b s st)) c.halt.ensures.made

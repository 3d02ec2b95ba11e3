use Rattle.std.proofs.Common.{sym, subst}
use Rattle.df_core.specs.Core.{Event}
use Rattle.df_core.specs.Cores.{IsEnabled}
use Rattle.df_core.proofs.Parts.Stepping.{token_enabled, core_rests}
use Rattle.df_core.proofs.engine.Core.pick.Goals as goal

pub returns-in-Some-some : goal.returns-in-Some-some
returns-in-Some-some c = subst (λ (event : Event). IsEnabled event c.args.self.now) (sym c.match_of.ensures)
    (token_enabled c.args.self.now c.in-Some-some.token c.in-Some-some.ensures)

pub returns-in-None : goal.returns-in-None
returns-in-None c = core_rests c.args.self.now c.in-None.ensures c.in_default.ensures

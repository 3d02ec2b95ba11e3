use Rattle.std.proofs.Common.{sym, subst}
use Rattle.df_core.specs.Core.{Event}
use Rattle.df_core.specs.Quiet.{IsQuietly}
use Rattle.df_core.proofs.Parts.Quietly.{match_quietly, only_fires}
use Rattle.df_core.proofs.engine.Core.pick_quiet.Goals as goal

pub returns-in-Some-quiet_token : goal.returns-in-Some-quiet_token
returns-in-Some-quiet_token c =
    let t = c.in-Some-quiet_token.token in
    subst (λ (event : Event). IsQuietly event c.args.self.now) (sym c.match_of.ensures)
    (match_quietly c.args.self.now t.wave t.instr t.port t.value c.in-Some-quiet_token.ensures.0
    c.in-Some-quiet_token.ensures.1)

pub returns-in-None : goal.returns-in-None
returns-in-None c = only_fires c.args.self.now c.in-None.ensures c.in_default.ensures

use Rattle.std.proofs.Common.{◌∙◌, ap}
use Rattle.df_core.specs.declared.slots.Slot.{Slot}
use Rattle.df_core.specs.Partial.{with_port}
use Rattle.df_core.proofs.Parts.Spilled.{put_so}
use Rattle.df_core.proofs.slots.MatchStore.put_spilled.Goals as goal

pub returns-clause-spilled : goal.returns-clause-spilled
returns-clause-spilled c =
    put_so c.args.self.now.spill c.insert.new.self c.args.token.wave c.args.token.instr c.args.token.port
    c.args.token.value c.with-slot.result c.requires.port
    (c.with-slot.ensures ∙ ap (λ (s : Slot). with_port s c.args.token.wave c.args.token.port
    c.args.token.value) c.spilled.ensures) c.in-Ok.ensures.updates.0

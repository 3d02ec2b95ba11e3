use Rattle.df_core.proofs.Parts.Spilled.{clear_so}
use Rattle.df_core.proofs.slots.MatchStore.remove_spilled.Goals as goal

pub returns-clause-spilled : goal.returns-clause-spilled
returns-clause-spilled c = clear_so c.args.self.now.spill c.remove.new.self c.args.wave c.args.instr
    c.remove.ensures.updates.0

use Rattle.df_core.proofs.Parts.Spilled.{clear_none}
use Rattle.df_core.proofs.slots.MatchStore.drop_spilled.Goals as goal

pub returns-else-not-is_empty-clause-spilled : goal.returns-else-not-is_empty-clause-spilled
returns-else-not-is_empty-clause-spilled c = clear_none c.args.self.now.spill
    (c.is_empty.ensures.0 c.if-not-is_empty.false) c.args.wave c.args.instr

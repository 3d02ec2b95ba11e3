use Rattle.df_core.proofs.Parts.Spilled.{same_spilled}
use Rattle.df_core.proofs.slots.MatchStore.reserve.Goals as goal

pub returns-clause-spilled : goal.returns-clause-spilled
returns-clause-spilled c = same_spilled c.args.self.now.spill c.reserve.new.self c.reserve.ensures.entries.2

pub returns-in_err-reserve-clause-spilled : goal.returns-in_err-reserve-clause-spilled
returns-in_err-reserve-clause-spilled c = same_spilled c.args.self.now.spill c.reserve.new.self
    c.reserve.ensures.entries.2

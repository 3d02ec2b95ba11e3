use Rattle.std.proofs.Common.{Vec, Global, ap, ◌∙◌}
use Rattle.df_core.specs.declared.slots.Slot.{Slot}
use Rattle.df_core.specs.Partial.{partial_of}
use Rattle.df_core.proofs.Parts.Spilled.{both_cleared}
use Rattle.df_core.proofs.slots.MatchStore.clear.Goals as goal

pub returns-clause-partial : goal.returns-clause-partial
returns-clause-partial c =
    λ w i p. ap (λ (v : Vec Slot Global). partial_of v.items c.drop_spilled.new.self.spill w i p)
    c.drop_spilled.ensures.slots
    ∙ both_cleared c.args.self.now.slots.items c.empty_slot_of.new.slots.items c.args.self.now.spill
    c.drop_spilled.new.self.spill c.args.wave c.args.instr c.empty_slot_of.ensures.slotted
    c.drop_spilled.ensures.spilled w i p

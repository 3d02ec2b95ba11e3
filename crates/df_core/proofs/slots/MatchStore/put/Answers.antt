use Rattle.std.proofs.Common.{Vec, Global, ap, ◌∙◌}
use Rattle.df_core.specs.declared.slots.Slot.{Slot}
use Rattle.df_core.specs.Partial.{partial_of}
use Rattle.df_core.proofs.Parts.Spilled.{put_is}
use Rattle.df_core.proofs.slots.MatchStore.put.Goals as goal

pub returns-clause-partial : goal.returns-clause-partial
returns-clause-partial c =
    λ w i p. ap (λ (v : Vec Slot Global). partial_of v.items c.put_spilled.new.self.spill w i p)
    c.put_spilled.ensures.slots
    ∙ put_is c.args.self.now.slots.items c.args.self.now.spill c.put_spilled.new.self.spill c.args.token.wave
    c.args.token.instr c.args.token.port c.args.token.value c.requires.free c.put_spilled.ensures.spilled
    w i p

use Rattle.std.proofs.Common.{◌∙◌, ap, inr, refl, sym}
use Rattle.df_core.specs.Chains.{chain_of, next_flag}
use Rattle.df_core.specs.Places.{image_of}
use Rattle.df_core.proofs.Keeping.Settled.{wave_ended, kept_behind}
use Rattle.df_core.proofs.Parts.Nexts.{next_not}
use Rattle.ws_isa.specs.Image.{note_of}
use Rattle.df_core.proofs.order.pass_on.Goals as goal

pub returns-then-is_nothing-clause-passed : goal.returns-then-is_nothing-clause-passed
returns-then-is_nothing-clause-passed c =
    wave_ended (image_of c.args.program.now) (chain_of c.args.chain) (chain_of c.pass-next.result)
    c.args.instr c.note-note.result c.args.early.now.items c.clear.new.self.items c.note-note.ensures
    (sym c.is_next.ensures ∙ c.if-not-is_next.false) (sym c.is_nothing.ensures ∙ c.if-is_nothing.true)
    c.pass-next.ensures c.clear.ensures.items

pub returns-then-not-is_next-clause-passed : goal.returns-then-not-is_next-clause-passed
returns-then-not-is_next-clause-passed c = inr (
  next_not (chain_of c.args.chain) (note_of (image_of c.args.program.now) c.args.instr)
      (ap (next_flag (chain_of c.args.chain)) (sym c.note-note.ensures) ∙ sym c.is_next.ensures
      ∙ c.if-not-is_next.true),
  refl,
  kept_behind c.args.instr c.args.early.now.items c.push_reserved.new.self.items
      c.push_reserved.ensures.items,
)

use Rattle.std.proofs.Common.{◌∙◌, ap, sym}
use Rattle.ws_isa.specs.declared.instr.Note.{Note}
use Rattle.df_core.specs.Chains.{chain_of}
use Rattle.df_core.specs.Places.{image_of}
use Rattle.df_core.proofs.Keeping.Settled.{wave_ended}
use Rattle.store_buf.specs.Earlies.{early_ops}
use Rattle.store_buf.proofs.pass.pass_on.Goals as goal

pub returns-then-not-is_next-clause-numbered : goal.returns-then-not-is_next-clause-numbered
returns-then-not-is_next-clause-numbered c = c.push.ensures.numbered (image_of c.args.program.now)
    (ap (λ (n : Note). n.seq) c.note-note.ensures) c.requires.numbered

pub returns-then-is_nothing-clause-passed : goal.returns-then-is_nothing-clause-passed
returns-then-is_nothing-clause-passed c = wave_ended (image_of c.args.program.now) (chain_of c.args.chain)
    (chain_of c.pass-next.result) c.args.instr c.note-note.result (early_ops c.args.early.now) (early_ops
    c.clear.new.self) c.note-note.ensures (sym c.is_next.ensures ∙ c.if-not-is_next.false) (sym
    c.is_nothing.ensures ∙ c.if-is_nothing.true) c.pass-next.ensures c.clear.ensures.none
